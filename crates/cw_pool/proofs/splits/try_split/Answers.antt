use Rattle.std.proofs.Common.{arith, ◌≡◌, []}
use Rattle.std.proofs.lemmas.Grind.{common_steps}
use Rattle.cw_pool.proofs.Tasks.Splitting.{split_so, split_there}
use Rattle.cw_pool.proofs.splits.try_split.Goals as goal

pub split-requires-clause-fork : goal.split-requires-clause-fork
split-requires-clause-fork g c =
    let alone : c.now.inside.below.items ≡ [] = grind (arith, common_steps) in
    split_there _ _ _ _ _ _ _ _ _ c.in-Waits.is c.in-Right.is alone c.now.invariant

pub invariant_of-now : goal.invariant_of-now
invariant_of-now g c =
    let alone : c.now.inside.below.items ≡ [] = grind (arith, common_steps) in
    split_so _ _ _ _ _ _ _ _ _ _ c.in-Waits.is c.in-Right.is alone c.now.invariant c.in-Ok.ensures.ok
