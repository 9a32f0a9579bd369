use Rattle.std.proofs.Common.{◌<◌, length, List, ap, sym, ◌∙◌, subst, arith}
use Rattle.cw_tree.specs.declared.node.Node.{Node}
use Rattle.cw_tree.specs.Nodes.{fresh_node}
use Rattle.cw_core.specs.declared.linked.Link.{Link}
use Rattle.cw_core.specs.Links.{AreLinks, put_link}
use Rattle.cw_core.proofs.Undone.Links.{links_grown}
use Rattle.cw_core.proofs.linked.Linked.add.Goals as goal

pub invariant_of-self-2 : goal.invariant_of-self-2
invariant_of-self-2 c =
    let a = c.self.inside in
    let x = fresh_node c.args.parent c.args.kind c.args.stamp in
    let there : c.args.parent < length a.tree = omega (arith, c.requires, ap length c.self.view_is) in
    let P : List Node → Type 0 = λ u. AreLinks u (put_link c.args.parent (length a.tree) a.links.items) in
    let Q : List Link → Type 0 = λ ls. AreLinks c.add.new.self ls in
    let links = c.put_last.ensures.links ∙ ap (λ n. put_link c.args.parent n c.reserve.new.self.items) c.in_ok-node.ensures.number ∙ ap (put_link c.args.parent (length a.tree)) c.reserve.ensures.items in
    subst Q (sym links) (subst P (sym c.in_ok-node.ensures.ok) (links_grown a.tree x (omega arith) c.nodes.ensures.numbered.rooted there a.links.items c.self.invariant))
