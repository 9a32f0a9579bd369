use Rattle.std.proofs.Common.{◌≡◌, ℕ}
use Rattle.std.specs.BTreeMap.{get}
use Rattle.std.specs.Ordering.{nat_cmp}
use Rattle.cw_report.specs.Found.{first_with_stamp}
use Rattle.cw_report.proofs.found.first_nodes.Given as goal

abbrev pub invariant-loop-n : goal.invariant-loop-n
invariant-loop-n l = (stamp : ℕ) → get nat_cmp l.first stamp ≡ first_with_stamp l.tree l.n stamp
