use Rattle.cw_tree.proofs.Names.PassDown.{CountedDown}
use Rattle.cw_tree.proofs.tree.Tree.forks_inside.Given as goal

abbrev pub invariant-loop-n : goal.invariant-loop-n
invariant-loop-n l = CountedDown l.self l.n l.inside.items

abbrev pub decreases-loop-n : goal.decreases-loop-n
decreases-loop-n l = l.n
