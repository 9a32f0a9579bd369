use Rattle.std.proofs.Common.{length}
use Rattle.cw_tree.specs.Series.{children}
use Rattle.cw_tree.proofs.InOrder.DepthFirst.{Walking, to_come}
use Rattle.cw_tree.proofs.tree.Tree.depth_first.Given as goal

abbrev pub invariant-loop-n : goal.invariant-loop-n
invariant-loop-n l = Walking l.self (children l.self) l.order.items l.stack.items

abbrev pub decreases-loop-n : goal.decreases-loop-n
decreases-loop-n l = length (to_come l.self (children l.self) l.stack.items)
