-- Where a running strand stands in depth-first order.
use Rattle.std.proofs.Common.{◌≡◌, ℕ, ◌<◌, List, length, ap, sym, ◌∙◌, subst, arith, Bool, true, false, inl, inr, nat_eq}
use Rattle.std.specs.Prelude.{◌&&◌, ℤ, unwrap_or}
use Rattle.std.proofs.lemmas.Bool.{and_parts, and_from, eqb-true, eq-eqb, false_from_ne_true}
use Rattle.cw_tree.specs.declared.node.Node.{Node}
use Rattle.cw_tree.specs.Nodes.{is_strand, is_block, is_pending}
use Rattle.cw_tree.specs.Walks.{IsNumbered, is_ancestor}
use Rattle.cw_tree.specs.Series.{strand_of, place}
use Rattle.cw_tree.specs.InOrder.{renamed, in_order}
use Rattle.cw_tree.proofs.Walks.Ancestors.{ancestor_le}
use Rattle.cw_tree.proofs.Walks.Strands.{strand_over, strand_of_le}
use Rattle.cw_tree.proofs.InOrder.Renumbered.{in_order_numbered}
use Rattle.cw_tree.proofs.InOrder.Renaming.{renamed_apart, ancestor_stays}
use Rattle.cw_tree.proofs.LastBelow.{last_none, last_some}
use Rattle.cw_tree.proofs.NodeKinds.{strand_no_block, pending_block}
use Rattle.cw_open.specs.Machine.{OpenMachine, is_running}
use Rattle.cw_open.proofs.Open.Standing.{runs, stands}
use Rattle.cw_open.proofs.Open.Trees.{IsWell}
use Rattle.cw_open.proofs.Refused.Victims.{IsToldState, over_own}
use Rattle.cw_open.proofs.Reordered.Renamed.{each_number, low, pending_kept, strand_of_renamed}

module _ (first : List ℤ) (m : OpenMachine) (w : IsToldState first m) (n : IsNumbered m.tree) (x : ℕ) (running : is_running m x ≡ true) where
  abbrev t : List Node
  t = m.tree

  abbrev new : List Node
  new = in_order t

  abbrev f : ℕ → ℕ
  f = renamed t

  abbrev p : ℕ
  p = place t x

  well : IsWell m
  well = w.state.well

  strand : is_strand t x ≡ true
  strand = (runs m well.sound.tree well.nested x running).strand

  there : p < length t
  there = (stands m well.sound.tree well.nested x running).there

  own : strand_of t p ≡ x
  own = (stands m well.sound.tree well.nested x running).strand

  low_x : x < length t
  low_x = let le = strand_of_le t n.rooted p there in let h = there in omega (arith, own)

  abbrev begun : ℕ → Bool
  begun k = is_pending new k && nat_eq (strand_of new k) (f x)

  -- a pending block of the strand is above its place
  above_place : (k : ℕ) → k < length t → begun (f k) ≡ true → (is_pending t k ≡ true) × (is_ancestor t x k ≡ true) × (is_ancestor t k p ≡ true)
  above_place k h e =
      let z = and_parts (is_pending new (f k)) (nat_eq (strand_of new (f k)) (f x)) e in
      let pending = sym (pending_kept t n k h) ∙ z.0 in
      let le = strand_of_le t n.rooted k h in
      let same : strand_of t k ≡ x = renamed_apart t n (strand_of t k) x (omega arith) low_x (sym (strand_of_renamed t n k h) ∙ eqb-true (strand_of new (f k)) (f x) z.1) in
      let P : ℕ → Type 0 = λ y. is_ancestor t y k ≡ true in
      let over = subst P same (strand_over t n.rooted k h) in
      (pending, over, over_own first m w x running k pending over)

  pub place_renamed : place new (f x) ≡ f p
  place_renamed = elim (stands m well.sound.tree well.nested x running).kind [
    | inl q ↦
        ap (λ o. unwrap_or o (f x))
        (last_none begun (length new)
        (each_number t n (λ c. begun c ≡ false)
        (λ k h. false_from_ne_true (begun (f k)) (λ e.
        let (pending, over, above) = above_place k h e in
        let le = ancestor_le t n.rooted k p there above in
        let ge = ancestor_le t n.rooted x k h over in
        let same : k ≡ x = omega (arith, q) in
        absurd (cc (strand_no_block t x strand, pending_block t k pending, ap (is_block t) same))))))
        ∙ ap f (sym q)
    | inr pending ↦
        ap (λ o. unwrap_or o (f x))
        (last_some begun (length new) (f p) (record {
          low = low t n p there;
          passes = and_from (is_pending new (f p)) (nat_eq (strand_of new (f p)) (f x)) (pending_kept t n p there ∙ pending) (eq-eqb (strand_of new (f p)) (f x) (strand_of_renamed t n p there ∙ ap f own));
          none = λ c l h.
              (each_number t n (λ c. f p < c → begun c ≡ false)
              (λ k hk l. false_from_ne_true (begun (f k)) (λ e.
              let (waits, over, above) = above_place k hk e in
              let le = ancestor_le new (in_order_numbered t n).rooted (f k) (f p) (low t n p there) (ancestor_stays t n k p hk there ∙ above) in
              absurd (omega arith))) c h l);
        }))
  ]
