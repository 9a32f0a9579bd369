use Rattle.std.proofs.Common.{◌≡◌, map}
use Rattle.std.specs.List.{filter}
use Rattle.cw_tree.specs.Nodes.{below}
use Rattle.cw_audit.specs.LiveAccesses.{dated, is_live_access}
use Rattle.cw_audit.proofs.accesses.dated_accesses.Given as goal

abbrev pub invariant-loop-n : goal.invariant-loop-n
invariant-loop-n l = l.dated.items ≡ map (dated l.tree) (filter (is_live_access l.tree) (below l.n))
