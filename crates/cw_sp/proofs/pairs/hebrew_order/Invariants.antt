use Rattle.std.proofs.Common.{length}
use Rattle.cw_sp.specs.Orders.{mirrored}
use Rattle.cw_tree.proofs.InOrder.DepthFirst.{Walking, to_come}
use Rattle.cw_sp.proofs.pairs.hebrew_order.Given as goal

abbrev pub invariant-loop-n : goal.invariant-loop-n
invariant-loop-n l = Walking l.tree (mirrored l.tree) l.order.items l.stack.items

abbrev pub decreases-loop-n : goal.decreases-loop-n
decreases-loop-n l = length (to_come l.tree (mirrored l.tree) l.stack.items)
