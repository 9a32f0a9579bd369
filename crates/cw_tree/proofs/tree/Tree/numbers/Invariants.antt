use Rattle.cw_tree.proofs.InOrder.Renumbered.{Placed}
use Rattle.cw_tree.proofs.tree.Tree.numbers.Given as goal

abbrev pub invariant-loop-place : goal.invariant-loop-place
invariant-loop-place l = Placed l.self l.place l.numbers.items
