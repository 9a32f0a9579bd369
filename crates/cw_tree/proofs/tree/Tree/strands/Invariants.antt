use Rattle.std.proofs.Common.{◌≡◌, map}
use Rattle.cw_tree.specs.Nodes.{below}
use Rattle.cw_tree.specs.Series.{strand_of}
use Rattle.cw_tree.proofs.tree.Tree.strands.Given as goal

abbrev pub invariant-loop-n : goal.invariant-loop-n
invariant-loop-n l = l.strands.items ≡ map (strand_of l.self) (below l.n)
