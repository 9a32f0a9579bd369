-- An access by a strand that stands in a block of its own conflicts with none, where the cell has an access beneath that block.
use Rattle.std.proofs.Common.{◌≡◌, ℕ, ◌<◌, ◌≤◌, List, [], ◌∷◌, length, map, refl, sym, ◌∙◌, subst, arith, true, false, inl, inr, nat_eq}
use Rattle.std.proofs.lemmas.Bool.{and_parts, or_from, eqb-true, cases_lt}
use Rattle.std.proofs.lemmas.List.Elements.{All-tail}
use Rattle.cw_tree.specs.declared.node.Node.{Node}
use Rattle.cw_tree.specs.Nodes.{is_pending}
use Rattle.cw_tree.specs.Walks.{IsRooted, has, is_ancestor, is_above}
use Rattle.cw_tree.specs.Series.{place}
use Rattle.cw_tree.specs.Accesses.{IsChain}
use Rattle.cw_tree.specs.AccessStacks.{AreThere, access_at, conflict_at}
use Rattle.cw_tree.specs.Newest.{newest}
use Rattle.cw_tree.specs.NextNodes.{IsPlace}
use Rattle.cw_tree.proofs.Lists.{In, any_in}
use Rattle.cw_tree.proofs.Walks.Ancestors.{above_ancestor, ancestor_above, ancestor_le}
use Rattle.cw_tree.proofs.Walks.Kin.{ancestor_linear}
use Rattle.cw_tree.proofs.ChainLaws.Nearest.{passes_free}
use Rattle.cw_tree.proofs.ChainLaws.Chains.{first_passes}
use Rattle.cw_tree.proofs.ChainLaws.Stamps.{named_there}
use Rattle.cw_tree.proofs.Members.{map_in}
use Rattle.cw_open.specs.Machine.{live, is_running, in_block}
use Rattle.cw_open.specs.Runs.{meets}
use Rattle.cw_open.specs.Laws.{OwnAccessesAreFree}
use Rattle.cw_open.proofs.Open.Trees.{stands_well}
use Rattle.cw_open.proofs.Open.TreeSteps.{place_pending}
use Rattle.cw_open.proofs.Laws.ChainSteps.{newest_in}
use Rattle.cw_open.proofs.Laws.ChainStates.{chain_states}

has_in : (us : List ℕ) (s : ℕ) → has us s ≡ true → In s us
has_in us s e =
    let z = any_in (λ n. nat_eq n s) us e in
    let P : ℕ → Type 0 = λ n. In n us in
    subst P (eqb-true z.0 s z.2) z.1

pub newest_single : (us : List ℕ) (v w : ℕ) (ns : List ℕ) → newest us ≡ v ∷ w ∷ ns → ⊥
newest_single [] v w ns e = absurd (cc e)
newest_single (u ∷ []) v w ns e = absurd (cc e)
newest_single (u ∷ x ∷ us) v w ns e = newest_single (x ∷ us) v w ns e

module _ (t : List Node) (r : IsRooted t) (p : ℕ) (pending : is_pending t p ≡ true) where
  -- beneath a place no block is pending: so what is beneath it has no pending block but those around the place
  free_beneath : IsPlace t p → (v : ℕ) → v < length t → is_above t p v ≡ true → conflict_at t v p ≡ false
  free_beneath at v hv over = passes_free t r v p hv around where
    around : (b : ℕ) → is_pending t b ≡ true → is_above t b v ≡ true → is_ancestor t b p ≡ true
    around b e o =
        let up = above_ancestor t b v o in
        let le : b ≤ v = ancestor_le t r b v hv up in
        elim (cases_lt p b) [
          | inl low ↦
              (let ne : b ≡ p → ⊥ = λ q. omega (arith, q) in
              let within = sym (ancestor_above t p b ne) ∙ ancestor_linear t r p b v hv (above_ancestor t p v over) up (omega arith) in
              absurd (cc (at.within b (omega arith) within, e)))
          | inr low ↦ ancestor_linear t r b p v hv up (above_ancestor t p v over) low
        ]

  -- the newest of a chain stands beneath a pending block where any of it does
  pub newest_over : (f : ℕ → ℕ) (us : List ℕ) → AreThere t (map f us) → IsChain t (map f us) → (u : ℕ) → In u us → is_above t p (f u) ≡ true → (v : ℕ) → newest us ≡ v ∷ [] → is_above t p (f v) ≡ true
  newest_over f [] h c u i o v q = absurd i
  newest_over f (x ∷ []) h c u (inl e) o v q =
      let same : x ≡ v = cc q in
      let P : ℕ → Type 0 = λ n. is_above t p (f n) ≡ true in
      subst P (e ∙ same) o
  newest_over f (x ∷ []) h c u (inr i) o v q = absurd i
  newest_over f (x ∷ y ∷ us) h c u (inl e) o v q =
      let P : ℕ → Type 0 = λ n. is_above t p (f n) ≡ true in
      first_passes t r (f x) (map f (y ∷ us)) h c (f v) (map_in f v (y ∷ us) (newest_in (y ∷ us) v q)) p pending (subst P e o)
  newest_over f (x ∷ y ∷ us) h c u (inr i) o v q = newest_over f (y ∷ us) (All-tail (λ n. n < length t) (f x) (map f (y ∷ us)) h) c.1 u i o v q

pub own_free : OwnAccessesAreFree
own_free first m r s c u a i o = by (newest (live m c)) refl where
  by : (ns : List ℕ) → newest (live m c) ≡ ns → meets m.tree ns (place m.tree s) ≡ false
  by [] e = refl
  by (v ∷ w ∷ ns) e = absurd (newest_single (live m c) v w ns e)
  by (v ∷ []) e =
      let z = and_parts (is_running m s) (in_block m s) a in
      let k = chain_states first m r in
      let w = k.state.well in
      let p = place m.tree s in
      let pending = place_pending m w s z.0 z.1 in
      let chain = (k.chained c).chain in
      let there = named_there m.tree c (live m c) chain.accesses in
      let rooted = w.sound.tree.rooted in
      let over = newest_over m.tree rooted p pending (access_at m.tree) (live m c) there chain.chain u (has_in (live m c) u i) o v e in
      or_from (conflict_at m.tree (access_at m.tree v) p) false
      (free_beneath m.tree rooted p pending (stands_well m w s z.0) (access_at m.tree v) (there_of m.tree (live m c) there v (newest_in (live m c) v e)) over) refl where
        there_of : (t : List Node) (us : List ℕ) → AreThere t (map (access_at t) us) → (v : ℕ) → In v us → access_at t v < length t
        there_of t us h v i = Rattle.cw_tree.proofs.ChainLaws.Chains.there_in (length t) (map (access_at t) us) h (access_at t v) (map_in (access_at t) v us i)
