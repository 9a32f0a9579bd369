-- A strand that is ready stays so, but where a fork that it made is joined and its merge is owed.
use Rattle.std.proofs.Common.{◌≡◌, ℕ, ◌<◌, length, ap, sym, ◌∙◌, arith, true, false, inl, inr, nat_lt, nat_eq}
use Rattle.std.specs.Prelude.{◌⊎◌, ◌&&◌, not}
use Rattle.std.specs.List.{list_any}
use Rattle.std.proofs.lemmas.Bool.{and_parts, and_from, not-true, not_from_false, false_from_ne_true, cases_Bool, ltb-true, eqb-true, eq-eqb}
use Rattle.cw_tree.specs.Nodes.{parent_of, all_nodes}
use Rattle.cw_tree.specs.Walks.{has}
use Rattle.cw_tree.specs.Series.{strand_of, children}
use Rattle.cw_tree.proofs.Lists.{any_in, any_from}
use Rattle.cw_tree.proofs.Members.{below_in}
use Rattle.cw_tree.proofs.InOrder.DepthFirst.{child_is, child_in}
use Rattle.cw_trace.specs.Stands.{fork_column}
use Rattle.cw_open.specs.Machine.{has_finished}
use Rattle.cw_open.specs.Runs.{at_any_time}
use Rattle.cw_open.proofs.Open.Trees.{IsWell}
use Rattle.cw_hands.specs.Shared.{SharedMoment, has_columns, is_split, is_owed, waits_for_left, waits_for_merge}
use Rattle.cw_hands.specs.Laws.{ReadyStay}
use Rattle.cw_hands.proofs.Laws.Kept.{IsPassed, Owed, owed_is, owed_from}
use Rattle.cw_hands.proofs.Laws.Order.{step_passed}
use Rattle.cw_hands.proofs.Laws.Runs.{well_at, tiers_stand}

module _ (s u : SharedMoment) (w : IsWell s.machine) (p : IsPassed s u) (x : ℕ) (low : x < length s.machine.tree) where
  -- a split fork stays split
  split_stays : (f : ℕ) → f < length s.machine.tree → is_split s f ≡ true → is_split u f ≡ true
  split_stays f h e =
      let z = and_parts (has_columns s f) (has s.cuts (fork_column s.machine.tree f)) e in
      let wide = p.wider f h z.0 in
      and_from (has_columns u f) (has u.cuts (fork_column u.machine.tree f)) wide (ap (has u.cuts) (p.old f h wide).1 ∙ p.cuts (fork_column s.machine.tree f) z.1)

  left_stays : waits_for_left s x ≡ false → waits_for_left u x ≡ false
  left_stays ready =
      false_from_ne_true (waits_for_left u x) (λ e.
      let up : parent_of u.machine.tree x ≡ parent_of s.machine.tree x = p.parents x low in
      let z = and_parts (not (is_split u (parent_of u.machine.tree x))) (list_any (λ l. nat_lt l x && not (has_finished u.machine l)) (children u.machine.tree (parent_of u.machine.tree x))) e in
      let q = any_in (λ l. nat_lt l x && not (has_finished u.machine l)) (children u.machine.tree (parent_of u.machine.tree x)) z.1 in
      let c = child_is u.machine.tree (parent_of u.machine.tree x) q.0 q.1 in
      let y = and_parts (nat_lt q.0 x) (not (has_finished u.machine q.0)) q.2 in
      let less : q.0 < x = ltb-true q.0 x y.0 in
      let l_low : q.0 < length s.machine.tree = omega arith in
      absurd (cc (ready, waiting q.0 c.some l_low (sym (p.parents q.0 l_low) ∙ c.parent ∙ up) y.0 (not-true (has_finished u.machine q.0) y.1) (sym (ap (is_split u) up) ∙ not-true (is_split u (parent_of u.machine.tree x)) z.0)))) where
        waiting : (l : ℕ) → 0 < l → l < length s.machine.tree → parent_of s.machine.tree l ≡ parent_of s.machine.tree x → nat_lt l x ≡ true → has_finished u.machine l ≡ false → is_split u (parent_of s.machine.tree x) ≡ false → waits_for_left s x ≡ true
        waiting l some l_low same less open_l whole =
            let z : l < x = ltb-true l x less in
            let lower : parent_of s.machine.tree x < x = w.sound.tree.rooted x (omega arith) low in
            let up : parent_of s.machine.tree x < length s.machine.tree = omega arith in
            and_from (not (is_split s (parent_of s.machine.tree x))) (list_any (λ l. nat_lt l x && not (has_finished s.machine l)) (children s.machine.tree (parent_of s.machine.tree x)))
            (not_from_false (is_split s (parent_of s.machine.tree x)) (false_from_ne_true (is_split s (parent_of s.machine.tree x)) (λ e. absurd (cc (whole, split_stays (parent_of s.machine.tree x) up e)))))
            (any_from (λ l. nat_lt l x && not (has_finished s.machine l)) l (children s.machine.tree (parent_of s.machine.tree x)) (child_in s.machine.tree (parent_of s.machine.tree x) l (record { some = some; there = l_low; parent = same }))
            (and_from (nat_lt l x) (not (has_finished s.machine l)) less (not_from_false (has_finished s.machine l) (false_from_ne_true (has_finished s.machine l) (λ e. absurd (cc (open_l, p.finished l e)))))))

  merge_stays : waits_for_merge s x ≡ false → (waits_for_merge u x ≡ false) ⊎ ((f : ℕ) × (is_owed u f ≡ true) × (strand_of u.machine.tree f ≡ x) × (has s.machine.joined f ≡ false))
  merge_stays ready = elim (cases_Bool (waits_for_merge u x)) [
    | inr none ↦ inl none
    | inl e ↦
        (let q = any_in (λ f. is_owed u f && nat_eq (strand_of u.machine.tree f) x) (all_nodes u.machine.tree) e in
        let z = and_parts (is_owed u q.0) (nat_eq (strand_of u.machine.tree q.0) x) q.2 in
        inr (q.0, z.0, eqb-true (strand_of u.machine.tree q.0) x z.1, false_from_ne_true (has s.machine.joined q.0) (λ j. absurd (cc (ready, was q.0 (owed_is u q.0 z.0) j (eqb-true (strand_of u.machine.tree q.0) x z.1))))))
  ] where
    was : (f : ℕ) → Owed u f → has s.machine.joined f ≡ true → strand_of u.machine.tree f ≡ x → waits_for_merge s x ≡ true
    was f o j own =
        let h = w.joined f j in
        let y = p.old f h o.wide in
        any_from (λ f. is_owed s f && nat_eq (strand_of s.machine.tree f) x) f (all_nodes s.machine.tree) (below_in f (length s.machine.tree) h)
        (and_from (is_owed s f) (nat_eq (strand_of s.machine.tree f) x)
        (owed_from s f (record { wide = y.0; joined = j; unmerged = false_from_ne_true (has s.joins (fork_column s.machine.tree f)) (λ e. absurd (cc (p.more f e, ap (has u.joins) y.1, o.unmerged))) }))
        (eq-eqb (strand_of s.machine.tree f) x (sym (p.own f h) ∙ own)))

pub ready_stay : ReadyStay
ready_stay asked first s u e x run root low ready =
    let r = at_any_time asked in
    let w = well_at r first s run in
    let p = step_passed s w (tiers_stand asked first s run root).keeps r u e in
    let z = and_parts (not (waits_for_left s x)) (not (waits_for_merge s x)) ready in
    elim (merge_stays s u w p x low (not-true (waits_for_merge s x) z.1)) [
      | inr owed ↦ inr owed
      | inl none ↦ inl (and_from (not (waits_for_left u x)) (not (waits_for_merge u x)) (not_from_false (waits_for_left u x) (left_stays s u w p x low (not-true (waits_for_left s x) z.0))) (not_from_false (waits_for_merge u x) none))
    ]
