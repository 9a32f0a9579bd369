use Rattle.cw_tree.proofs.Walks.Children.{Met}
use Rattle.cw_tree.proofs.tree.family.Family.of_tree.Given as goal

abbrev pub invariant-loop-n : goal.invariant-loop-n
invariant-loop-n l = Met l.tree l.n l.last.items l.before.items
