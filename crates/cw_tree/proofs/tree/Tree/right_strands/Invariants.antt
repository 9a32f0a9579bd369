use Rattle.cw_tree.proofs.Names.Sides.{Told}
use Rattle.cw_tree.proofs.tree.Tree.right_strands.Given as goal

abbrev pub invariant-loop-n : goal.invariant-loop-n
invariant-loop-n l = Told l.self l.n l.sides.items l.forked.items
