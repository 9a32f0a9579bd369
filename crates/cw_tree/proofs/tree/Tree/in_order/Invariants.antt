use Rattle.std.proofs.Common.{◌≡◌, map, take}
use Rattle.cw_tree.specs.InOrder.{node_in_order}
use Rattle.cw_tree.proofs.tree.Tree.in_order.Given as goal

abbrev pub invariant-loop-n : goal.invariant-loop-n
invariant-loop-n l = l.nodes.items ≡ map (node_in_order l.self) (take l.n-index l.n-items)
