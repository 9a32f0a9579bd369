use Rattle.std.proofs.Common.{sym, ◌∙◌, ap, nat_eq}
use Rattle.std.proofs.lemmas.List.Sorted.{IsNonDecreasingBy-from_sort, list_any-IsPermutation}
use Rattle.cw_audit.specs.Victims.{is_among}
use Rattle.cw_audit.proofs.victims.victims.Goals as goal

pub returns-clause-sorted : goal.returns-clause-sorted
returns-clause-sorted c = IsNonDecreasingBy-from_sort (λ x. x) c.sort.new.self.items c.in_ok-sort.ensures.sorted

pub returns-clause-same : goal.returns-clause-same
returns-clause-same c = λ s. sym (list_any-IsPermutation (λ v. nat_eq v s) c.in_ok-victims.victims.items c.sort.new.self.items c.in_ok-sort.ensures.permutation) ∙ ap (is_among s) c.in_ok-victims.ensures
