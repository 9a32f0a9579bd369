use Rattle.std.proofs.Common.{◌≡◌, List, nat_eq, sym, ap, true, arith, rules, subst}
use Rattle.std.specs.List.{IsDistinct}
use Rattle.cw_tree.specs.Walks.{has}
use Rattle.cw_trace.proofs.brackets.Brackets.with_room.Goals as goal

no_elements : IsDistinct {K = Rattle.std.proofs.Common.ℕ} nat_eq Rattle.std.proofs.Common.[]
unfolding IsDistinct
no_elements = tt

pub invariant_of-result : goal.invariant_of-result
invariant_of-result c =
    let none = sym c.in_ok-with_room.ensures.empty in
    let room = c.in_ok-with_room.ensures.room in
    record {
      elements_room = search (rules, c.in_ok-with_capacity.ensures, room);
      marks_room = search (rules, c.in_ok-with_capacity-2.ensures, room);
      labelled = c.in_ok-with_room.ensures.labels;
      distinct = subst (IsDistinct nat_eq) none no_elements;
      low = λ e h. absurd (cc (ap (λ xs. has xs e) none, h));
      mark_low = λ e h. absurd (cc (ap (λ xs. has xs e) none, h));
      back = λ e h. absurd (cc (ap (λ xs. has xs e) none, h));
    }
