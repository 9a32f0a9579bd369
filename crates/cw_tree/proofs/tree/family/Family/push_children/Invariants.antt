use Rattle.cw_tree.proofs.Walks.Children.{Pushing, size}
use Rattle.cw_tree.proofs.tree.family.Family.push_children.Given as goal

abbrev pub invariant-loop-next : goal.invariant-loop-next
invariant-loop-next l = Pushing l.self l.n l.initial.stack.items l.stack.items l.next

abbrev pub decreases-loop-next : goal.decreases-loop-next
decreases-loop-next l = size l.next
