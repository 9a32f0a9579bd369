use Rattle.std.proofs.Common.{ℕ, List, get_or, subst, arith}
use Rattle.cw_tree.proofs.Lists.{In}
use Rattle.cw_tree.proofs.Members.{at_in}
use Rattle.cw_tree.proofs.InOrder.Visits.{come_there}
use Rattle.cw_tree.proofs.Walks.There.{strand_there}
use Rattle.cw_audit.proofs.refused.refused.Goals as goal

pub is_tried-requires : goal.is_tried-requires
is_tried-requires c =
    let t = c.args.tree.now in
    let xs = c.args.order.now in
    let i = c.loop-i.i in
    let P : List ℕ → Type 0 = λ ys. In (get_or xs i 0) ys in
    come_there t c.nodes.ensures.numbered.rooted (strand_there t 0 c.nodes.ensures.numbered.root) (get_or xs i 0) (subst P c.requires (at_in xs i (omega arith)))
