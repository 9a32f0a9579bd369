use Rattle.std.proofs.Common.{sym, subst, nat_eq, List, ℕ}
use Rattle.std.specs.List.{IsDistinct}
use Rattle.std.specs.List.Sorted.{IsStrictlyIncreasing}
use Rattle.std.proofs.lemmas.List.Sorted.{IsNonDecreasingBy-from_sort}
use Rattle.cw_audit.proofs.Rising.Times.{rises_from, distinct_from}
use Rattle.cw_audit.proofs.stamps.times_differ.Goals as goal

pub returns : goal.returns
returns c =
    let xs = c.in_ok-times.times.items in
    let ys = c.sort.new.self.items in
    let D : List ℕ → Type 0 = λ zs. IsDistinct nat_eq zs in
    let R : List ℕ → Type 0 = λ zs. IsStrictlyIncreasing zs in (
      λ e. subst D c.in_ok-times.ensures (distinct_from xs ys c.in_ok-sort.ensures.permutation (subst R c.as_slice.ensures.value (c.rises.ensures.0 e))),
      λ d. c.rises.ensures.1 (subst R (sym c.as_slice.ensures.value) (rises_from xs ys c.in_ok-sort.ensures.permutation (IsNonDecreasingBy-from_sort (λ x. x) ys c.in_ok-sort.ensures.sorted) (subst D (sym c.in_ok-times.ensures) d))),
    )
