use Rattle.std.specs.Prelude.{◌≡◌, ◌+◌, ◌++◌, map, take}
use Rattle.cw_tree.specs.declared.node.Node.{Node}
use Rattle.cw_steps.proofs.closing.trees.hang_all.Given as goal

abbrev pub invariant-loop-node : goal.invariant-loop-node
invariant-loop-node l = l.tree ≡ l.initial.tree ++ map (λ (y : Node). record y { parent = l.base + y.parent }) (take l.node-index l.nodes)
