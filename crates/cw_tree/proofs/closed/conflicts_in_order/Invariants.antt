use Rattle.std.proofs.Common.{◌≡◌, map, take}
use Rattle.cw_tree.specs.InOrder.{conflict_in_order}
use Rattle.cw_tree.proofs.closed.conflicts_in_order.Given as goal

abbrev pub invariant-loop-conflict : goal.invariant-loop-conflict
invariant-loop-conflict l = l.sorted.items ≡ map (conflict_in_order l.tree) (take l.conflict-index l.conflicts)
