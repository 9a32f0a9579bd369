use Rattle.std.proofs.Common.{subst, rules, List}
use Rattle.std.specs.List.Sorted.{IsPermutation}
use Rattle.std.proofs.lemmas.List.Sorted.{IsNonDecreasingBy-from_sort_by_key}
use Rattle.cw_audit.specs.declared.stamped.Stamped.{Stamped}
use Rattle.cw_audit.proofs.stamped.nodes_by_stamp.Goals as goal

pub returns : goal.returns
returns c =
    let t = c.args.tree.now in
    let xs = c.sort_by_key.new.self.items in
    let P : List Stamped → Type 0 = λ ys. IsPermutation ys xs in
    record {
      rise = IsNonDecreasingBy-from_sort_by_key (λ a. a.stamp) xs c.in_ok-sort_by_key.ensures.sorted (λ a r q k. search rules);
      same = subst P c.in_ok-nodes.ensures c.sort_by_key.ensures.permutation;
    }
