use Rattle.std.proofs.Common.{◌≡◌, map}
use Rattle.cw_tree.specs.Nodes.{below}
use Rattle.cw_tree.specs.Walks.{xparent}
use Rattle.cw_audit.proofs.blocks.blocks_above.Given as goal

abbrev pub invariant-loop-n : goal.invariant-loop-n
invariant-loop-n l = l.blocks.items ≡ map (xparent l.tree) (below l.n)
