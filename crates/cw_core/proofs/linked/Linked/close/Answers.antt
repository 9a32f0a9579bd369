use Rattle.std.proofs.Common.{List, sym, refl, subst}
use Rattle.cw_tree.specs.declared.node.Node.{Node}
use Rattle.cw_tree.proofs.NextNodes.Closing.{length_closed, number_closed}
use Rattle.cw_core.specs.Links.{AreLinks}
use Rattle.cw_core.proofs.Undone.Links.{links_closed}
use Rattle.cw_core.proofs.linked.Linked.close.Goals as goal

pub invariant_of-self : goal.invariant_of-self
invariant_of-self c =
    let a = c.self.inside in
    let P : List Node → Type 0 = λ u. AreLinks u a.links.items in
    subst P (sym c.close.ensures) (links_closed a.tree _ (length_closed a.tree c.args.block c.args.state c.args.end) (number_closed a.tree c.args.block c.args.state c.args.end (λ y. y.parent) (λ y. refl)) a.links.items c.self.invariant)
