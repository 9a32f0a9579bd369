-- Stamps and ends stay apart, and rise along the tree, as a block at a place is closed.
use Rattle.std.proofs.Common.{◌≡◌, ℕ, ◌<◌, List, length, refl, ap, sym, ◌∙◌, subst, arith, true, false, inl, inr, nat_lt}
use Rattle.std.specs.Prelude.{◌⊎◌, not}
use Rattle.std.proofs.lemmas.Bool.{and_parts, and_from, and_right, not_from_false, cases_eq}
use Rattle.cw_tree.specs.declared.node.Node.{Node}
use Rattle.cw_tree.specs.declared.node.BlockState.{BlockState}
use Rattle.cw_tree.specs.Nodes.{is_block_kind, is_pending_state, stamp_of, end_of, is_block, is_pending, closed}
use Rattle.cw_tree.specs.Walks.{IsRooted, is_ancestor, is_above}
use Rattle.cw_tree.specs.Series.{is_before}
use Rattle.cw_tree.specs.Shape.{AreStamps, is_closed}
use Rattle.cw_tree.specs.NextNodes.{IsEndStamp}
use Rattle.cw_tree.proofs.Walks.Ancestors.{above_ancestor}
use Rattle.cw_tree.proofs.NextNodes.Closing.{length_closed, closed_other, same_closed, node_closed, number_closed, number_closed_other, state_closed, end_closed, is_above_closed}
use Rattle.cw_tree.proofs.NextNodes.Before.{above_less, before_closed}
use Rattle.cw_tree.proofs.NextNodes.Stamps.{IsEnd, stamp_test, closed_test, closed_apart}

module _ (t : List Node) (r : IsRooted t) (s : AreStamps t) (p : ℕ) (w : IsEnd t p) (state : BlockState) (end : ℕ) (block : is_block t p ≡ true) (done : is_pending_state state ≡ false) (z : IsEndStamp t p end) where
  abbrev v : List Node
  v = closed t p state end

  long : length v ≡ length t
  long = length_closed t p state end

  same_stamp : (n : ℕ) → stamp_of v n ≡ stamp_of t n
  same_stamp n = number_closed t p state end (λ y. y.stamp) (λ y. refl) n

  -- it ends at the stamp, and all others are as they were
  record Ends (n : ℕ) : Type 0 where
    here : n ≡ p
    ends : end_of v n ≡ end
    shut : is_closed v n ≡ true

  record Stays (n : ℕ) : Type 0 where
    ends : end_of v n ≡ end_of t n
    shut : is_closed v n ≡ is_closed t n

  ends_here : Ends p
  ends_here = record {
    here = refl;
    ends = end_closed t p state end w.there;
    shut = and_from (is_block v p) (not (is_pending v p)) (node_closed t p state end (λ y. is_block_kind y.kind) (λ y. refl) p ∙ block)
        (not_from_false (is_pending v p) (state_closed t p state end is_pending_state ∙ and_right (is_block t p) (is_pending_state state) done));
  }

  ends_or_stays : (n : ℕ) → Ends n ⊎ Stays n
  ends_or_stays n =
      elim (cases_eq n p) [
        | inl e ↦ inl (subst Ends (sym e) ends_here)
        | inr ne ↦ inr (record {
          ends = number_closed_other t p state end (λ y. y.end) n ne;
          shut = ap closed_test (closed_other t p state end n ne);
        })
      ]

  same_above : (a n : ℕ) → n < length t → is_above v a n ≡ is_above t a n
  same_above = is_above_closed t p state end r

  ends_apart : (n m : ℕ) → n < length t → m < length t → 0 < end_of v n → end_of v n ≡ end_of v m → Ends n ⊎ Stays n → Ends m ⊎ Stays m → n ≡ m
  ends_apart n m hn hm some e (inl x) (inl y) = x.here ∙ sym y.here
  ends_apart n m hn hm some e (inl x) (inr y) = absurd ((z.fresh m hm).1 (sym y.ends ∙ sym e ∙ x.ends))
  ends_apart n m hn hm some e (inr x) (inl y) = absurd ((z.fresh n hn).1 (sym x.ends ∙ e ∙ y.ends))
  ends_apart n m hn hm some e (inr x) (inr y) = s.ends_distinct n m hn hm (omega (arith, x.ends)) (sym x.ends ∙ e ∙ y.ends)

  none_there : (n m : ℕ) → n < length t → m < length t → 0 < end_of v n → end_of v n ≡ stamp_of v m → Ends n ⊎ Stays n → ⊥
  none_there n m hn hm some e (inl x) = (z.fresh m hm).0 (sym (same_stamp m) ∙ sym e ∙ x.ends)
  none_there n m hn hm some e (inr x) = s.apart n m hn hm (omega (arith, x.ends)) (sym x.ends ∙ e ∙ same_stamp m)

  in_series : (n m : ℕ) → n < length t → m < length t → is_before t n m ≡ true → 0 < stamp_of v m → Ends n ⊎ Stays n → (stamp_of v n < stamp_of v m) × (end_of v n < stamp_of v m)
  in_series n m hn hm e some (inl x) = absurd (let P : ℕ → Type 0 = λ k. is_before t k m ≡ true in cc (subst P x.here e, w.last m hm))
  in_series n m hn hm e some (inr x) =
      let y = s.series n m hn hm e (omega (arith, same_stamp m)) in
      (omega (arith, y.0, same_stamp n, same_stamp m), omega (arith, y.1, x.ends, same_stamp m))

  ended_after : (n : ℕ) → n < length t → is_closed v n ≡ true → Ends n ⊎ Stays n → stamp_of v n < end_of v n
  ended_after n h e (inl x) = omega (arith, z.begun, same_stamp n, ap (stamp_of t) x.here, x.ends)
  ended_after n h e (inr x) = omega (arith, s.ended n h (sym x.shut ∙ e), same_stamp n, x.ends)

  within : (n m : ℕ) → n < length t → m < length t → is_closed v n ≡ true → is_above t n m ≡ true → Ends n ⊎ Stays n → Ends m ⊎ Stays m → (stamp_of v m < end_of v n) × (end_of v m < end_of v n)
  within n m hn hm e over (inl x) (inl y) = absurd (let less = above_less t r n m hm over in omega (arith, x.here, y.here))
  within n m hn hm e over (inl x) (inr y) =
      let P : ℕ → Type 0 = λ k. is_above t k m ≡ true in
      let low = z.beneath m hm (subst P x.here over) in
      (omega (arith, low.0, same_stamp m, x.ends), omega (arith, low.1, y.ends, x.ends))
  within n m hn hm e over (inr x) (inl y) = let P : ℕ → Type 0 = λ k. is_ancestor t n k ≡ true in absurd (closed_apart t p w n (sym x.shut ∙ e) (subst P y.here (above_ancestor t n m over)))
  within n m hn hm e over (inr x) (inr y) =
      let low = s.beneath n m hn hm (and_from (is_closed t n) (is_above t n m) (sym x.shut ∙ e) over) in
      (omega (arith, low.0, same_stamp m, x.ends), omega (arith, low.1, x.ends, y.ends))

  open_end : (n : ℕ) → n < length t → is_closed v n ≡ false → Ends n ⊎ Stays n → end_of v n ≡ 0
  open_end n h e (inl x) = absurd (let shut = x.shut in cc)
  open_end n h e (inr x) = x.ends ∙ s.no_end n h (sym x.shut ∙ e)

  pub stamps_closed : AreStamps v
  stamps_closed = record {
    there = λ n h. ap (nat_lt 0) (same_stamp n) ∙ s.there n (omega (arith, long)) ∙ sym (same_closed t p state end stamp_test (λ y. refl) n);
    distinct = λ n m hn hm some e. s.distinct n m (omega (arith, long)) (omega (arith, long)) (omega (arith, same_stamp n)) (sym (same_stamp n) ∙ e ∙ same_stamp m);
    ends_distinct = λ n m hn hm some e. ends_apart n m (omega (arith, long)) (omega (arith, long)) some e (ends_or_stays n) (ends_or_stays m);
    apart = λ n m hn hm some e. none_there n m (omega (arith, long)) (omega (arith, long)) some e (ends_or_stays n);
    series = λ n m hn hm e some. in_series n m (omega (arith, long)) (omega (arith, long)) (sym (before_closed t p state end r n m (omega (arith, long)) (omega (arith, long))) ∙ e) some (ends_or_stays n);
    begun = λ a m ha hm e some.
        (let y = and_parts (is_block v a) (is_above v a m) e in
        let was = and_from (is_block t a) (is_above t a m) (sym (node_closed t p state end (λ y. is_block_kind y.kind) (λ y. refl) a) ∙ y.0) (sym (same_above a m (omega (arith, long))) ∙ y.1) in
        omega (arith, s.begun a m (omega (arith, long)) (omega (arith, long)) was (omega (arith, same_stamp m)), same_stamp a, same_stamp m));
    ended = λ a h e. ended_after a (omega (arith, long)) e (ends_or_stays a);
    beneath = λ a m ha hm e.
        (let y = and_parts (is_closed v a) (is_above v a m) e in
        within a m (omega (arith, long)) (omega (arith, long)) y.0 (sym (same_above a m (omega (arith, long))) ∙ y.1) (ends_or_stays a) (ends_or_stays m));
    no_end = λ n h e. open_end n (omega (arith, long)) e (ends_or_stays n);
  }
