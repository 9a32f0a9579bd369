-- As the tree of one worker grows every access stays one of a cell that is there, and what ended between accesses stays ended.
use Rattle.std.proofs.Common.{◌≡◌, ◌<◌, ℕ, zero, suc, List, [], ◌∷◌, length, refl, ap, sym, ◌∙◌, subst, arith, true, false, inl, inr}
use Rattle.std.specs.Prelude.{◌&&◌, not, All, IsTrue}
use Rattle.std.proofs.lemmas.Bool.{and_parts, and_from, not_from_false, not-true}
use Rattle.cw_tree.specs.declared.node.Node.{Node}
use Rattle.cw_tree.specs.declared.node.Kind.{Kind}
use Rattle.cw_tree.specs.declared.node.Kind.TheVariants.{Strand}
use Rattle.cw_tree.specs.declared.node.BlockState.TheVariants.{Committed}
use Rattle.cw_tree.specs.Nodes.{is_node, is_block, is_block_kind, is_committed_state, is_aborted, touches_kind, fresh_node, closed}
use Rattle.cw_tree.specs.Walks.{IsRooted, is_above}
use Rattle.cw_tree.specs.Accesses.{live_accesses}
use Rattle.cw_tree.specs.Journals.{fits_cells, FitsCells, EndedBetween, AllEndedBetween, JournalsEnded}
use Rattle.cw_tree.proofs.NextNodes.Closing.{length_closed, node_closed}
use Rattle.cw_tree.proofs.NextNodes.Growing.{length_more, node_grown, node_new, number_grown, is_above_grown}
use Rattle.cw_tree.proofs.Lists.{In, at_or_before}
use Rattle.cw_tree.proofs.ChainLaws.LiveAccesses.{live_there, live_stays}
use Rattle.cw_record.specs.Drawn.{added}
use Rattle.cw_record.proofs.OneWorker.GrowingJournals.{same_more}
use Rattle.cw_tree.proofs.NextNodes.Trees.{each_more}
use Rattle.cw_record.proofs.OneWorker.Unstarted.{with_strands, by_strand}

-- ## Cells

pub fits_root : (k : ℕ) → FitsCells (fresh_node 0 Strand 0 ∷ []) k
fits_root k zero h = refl
fits_root k (suc n) h = absurd (omega arith)

module _ (t : List Node) (k : ℕ) (h : FitsCells t k) where
  pub fits_more : (p : ℕ) (kind : Kind) (stamp : ℕ) → fits_cells k kind ≡ true → FitsCells (added t p kind stamp) k
  fits_more p kind stamp e =
      let x = fresh_node p kind stamp in
      each_more t x (λ n. IsTrue (is_node (λ y. fits_cells k y.kind) (added t p kind stamp) n))
      (λ n l. node_grown t (x ∷ []) (λ y. fits_cells k y.kind) n l ∙ h n l)
      (node_new t x (λ y. fits_cells k y.kind) ∙ e)

  pub fits_closed : (b end : ℕ) → FitsCells (closed t b Committed end) k
  fits_closed b end n l = node_closed t b Committed end (λ y. fits_cells k y.kind) (λ y. refl) n ∙ h n (omega (arith, length_closed t b Committed end))

pub fits_behind : (t : List Node) (k : ℕ) → IsRooted t → FitsCells t k → (fs : List ℕ) → All (λ f. f < length t) fs → FitsCells (with_strands t fs) k
fits_behind t k r h fs low = by_strand (λ u. FitsCells u k) (length t) (λ u ru le f l old. fits_more u k old f Strand 0 refl) fs t r (omega arith) low h

-- ## What ended between accesses

-- one strand more
module _ (t : List Node) (r : IsRooted t) (none : (n : ℕ) → is_aborted t n ≡ false) (f : ℕ) where
  abbrev x : Node
  x = fresh_node f Strand 0

  abbrev u : List Node
  u = added t f Strand 0

  between_stays : (a v : ℕ) → a < length t → v < length t → EndedBetween t a v → EndedBetween u a v
  between_stays a v ha hv h b l e =
      elim (at_or_before b (length t) (omega (arith, length_more t x))) [
        | inl old ↦ (
            let z = and_parts (is_block u b && is_above u b a) (not (is_above u b v)) e in
            let y = and_parts (is_block u b) (is_above u b a) z.0 in
            let block : is_block t b ≡ true = sym (node_grown t (x ∷ []) (λ n. is_block_kind n.kind) b old) ∙ y.0 in
            let above : is_above t b a ≡ true = sym (is_above_grown t (x ∷ []) r b a ha) ∙ y.1 in
            let apart : is_above t b v ≡ false = sym (is_above_grown t (x ∷ []) r b v hv) ∙ not-true (is_above u b v) z.1 in
            let ended = h b old (and_from (is_block t b && is_above t b a) (not (is_above t b v)) (and_from (is_block t b) (is_above t b a) block above) (not_from_false (is_above t b v) apart)) in (
              node_grown t (x ∷ []) (λ n. is_block_kind n.kind && is_committed_state n.state) b old ∙ ended.0,
              omega (arith, ended.1, number_grown t (x ∷ []) (λ n. n.end) b old, number_grown t (x ∷ []) (λ n. n.stamp) v hv),
            ))
        | inr new ↦ (
            let z = and_parts (is_block u b && is_above u b a) (not (is_above u b v)) e in
            let block = (and_parts (is_block u b) (is_above u b a) z.0).0 in
            let strand : is_block u b ≡ false = sym (ap (is_block u) new) ∙ node_new t x (λ n. is_block_kind n.kind) in
            absurd (cc (block, strand)))
      ]

  all_stay : (us : List ℕ) → ((n : ℕ) → In n us → n < length t) → AllEndedBetween t us → AllEndedBetween u us
  all_stay [] low h = tt
  all_stay (a ∷ []) low h = tt
  all_stay (a ∷ v ∷ us) low h = (between_stays a v (low a (inl refl)) (low v (inr (inl refl))) h.0, all_stay (v ∷ us) (λ n i. low n (inr i)) h.1)

  pub ended_stay : (k : ℕ) → JournalsEnded t k → JournalsEnded u k
  ended_stay k h c l =
      let same : live_accesses u c ≡ live_accesses t c = live_stays t u (same_more t none f Strand 0) c (length_more t x) (node_new t x (λ n. touches_kind c n.kind)) in
      let P : List ℕ → Type 0 = AllEndedBetween u in
      subst P (sym same) (all_stay (live_accesses t c) (λ n i. live_there t c n i) (h c l))

pub ended_behind : (t : List Node) (k : ℕ) → IsRooted t → ((n : ℕ) → is_aborted t n ≡ false) → JournalsEnded t k → (fs : List ℕ) → All (λ f. f < length t) fs → JournalsEnded (with_strands t fs) k
ended_behind t k r none h fs low =
    (by_strand (λ u. ((n : ℕ) → is_aborted u n ≡ false) × JournalsEnded u k) (length t)
    (λ u ru le f l old. ((same_more u old.0 f Strand 0).none_too, ended_stay u ru old.0 f k old.1))
    fs t r (omega arith) low (none, h)).1
