-- Where a run of one worker comes to its end: which blocks are left pending.
use Rattle.std.proofs.Common.{◌≡◌, ℕ, ◌<◌, List, [], ◌∷◌, length, refl, ap, sym, ◌∙◌, subst, arith, true, inl, inr}
use Rattle.std.specs.Prelude.{◌&&◌, All}
use Rattle.cw_tree.specs.declared.node.Node.{Node}
use Rattle.cw_tree.specs.declared.node.Kind.TheVariants.{Strand}
use Rattle.cw_tree.specs.Nodes.{is_block, is_block_kind, is_pending_state, is_committed_state, fresh_node}
use Rattle.cw_tree.specs.Walks.{IsRooted, is_ancestor}
use Rattle.cw_tree.specs.Series.{strand_of, place}
use Rattle.cw_tree.proofs.Lists.{at_or_before}
use Rattle.cw_tree.proofs.NextNodes.Growing.{length_more, node_grown, node_new, ancestor_grown}
use Rattle.cw_record.specs.Drawn.{added}
use Rattle.cw_record.specs.Records.{BlocksAround}
use Rattle.cw_record.proofs.OneWorker.Building.{IsBuilt}
use Rattle.cw_record.proofs.OneWorker.Faults.{place_is, place_stays}
use Rattle.cw_tree.proofs.Walks.There.{node_there}
use Rattle.cw_record.proofs.OneWorker.Unstarted.{with_strands, by_strand}

pub blocks_built : (t : List Node) (p clock : ℕ) → IsBuilt t p clock → BlocksAround t p
blocks_built t p clock b = record { pending = b.pending; committed = b.committed }

module _ (t : List Node) (r : IsRooted t) (f : ℕ) (there : f < length t) (q : ℕ) (low : q < length t) (b : BlocksAround t q) where
  abbrev u : List Node
  u = added t f Strand 0

  abbrev x : Node
  x = fresh_node f Strand 0

  old_block : (n : ℕ) → is_block u n ≡ true → n < length t
  old_block n e =
      elim (at_or_before n (length t) (let l = node_there (λ y. is_block_kind y.kind) u n e in omega (arith, length_more t x))) [
        | inl l ↦ l
        | inr same ↦ absurd (let yes = ap (is_block u) same ∙ e in let no = node_new t x (λ y. is_block_kind y.kind) in cc)
      ]

  same_block : (n : ℕ) → n < length t → is_block u n ≡ is_block t n
  same_block = node_grown t (x ∷ []) (λ y. is_block_kind y.kind)

  same_over : (n : ℕ) → is_ancestor u n q ≡ is_ancestor t n q
  same_over n = ancestor_grown t (x ∷ []) r n q low

  -- one more strand changes nothing
  blocks_more : BlocksAround u q
  blocks_more = record {
    pending = λ n e over.
        (let l = old_block n e in
        node_grown t (x ∷ []) (λ y. is_block_kind y.kind && is_pending_state y.state) n l ∙ b.pending n (sym (same_block n l) ∙ e) (sym (same_over n) ∙ over));
    committed = λ n e off.
        (let l = old_block n e in
        node_grown t (x ∷ []) (λ y. is_block_kind y.kind && is_committed_state y.state) n l ∙ b.committed n (sym (same_block n l) ∙ e) (λ over. off (same_over n ∙ over)));
  }

-- ## Where strands that never started are added

module _ (t : List Node) (p clock : ℕ) (b : IsBuilt t p clock) (fs : List ℕ) (low : All (λ f. f < length t) fs) where
  place_behind : place (with_strands t fs) (strand_of t p) ≡ place t (strand_of t p)
  place_behind = by_strand (λ u. place u (strand_of t p) ≡ place t (strand_of t p)) (length t) (λ u ru le f l e. place_stays u ru f (omega arith) Strand 0 refl (strand_of t p) ∙ e) fs t b.rooted (omega arith) low refl

  pub place_at_fault : place (with_strands t fs) (strand_of t p) ≡ p
  place_at_fault = place_behind ∙ place_is t p clock b

  pub blocks_at_fault : BlocksAround (with_strands t fs) (place (with_strands t fs) (strand_of t p))
  blocks_at_fault =
      let there = b.there in
      let q = place t (strand_of t p) in
      let is : q ≡ p = place_is t p clock b in
      let start : BlocksAround t q = subst (BlocksAround t) (sym is) (blocks_built t p clock b) in
      subst (BlocksAround (with_strands t fs)) (sym place_behind)
      (by_strand (λ u. BlocksAround u q) (length t) (λ u ru le f l e. blocks_more u ru f (omega arith) q (omega (arith, is)) e) fs t b.rooted (omega arith) low start)
