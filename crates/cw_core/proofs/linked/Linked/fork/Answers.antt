use Rattle.std.proofs.Common.{◌≡◌, ◌+◌, ◌<◌, length, List, ap, sym, ◌∙◌, subst, arith}
use Rattle.cw_tree.specs.declared.node.Node.{Node}
use Rattle.cw_core.specs.declared.linked.Link.{Link}
use Rattle.cw_core.specs.Links.{AreLinks, put_link}
use Rattle.cw_core.proofs.Undone.Links.{links_forked}
use Rattle.cw_core.proofs.linked.Linked.fork.Goals as goal

pub invariant_of-self-2 : goal.invariant_of-self-2
invariant_of-self-2 c =
    let a = c.self.inside in
    let n = length a.tree in
    let f = c.in_ok-fork.fork in
    let here : f ≡ n = c.in_ok-fork.ensures.number in
    let there : c.args.parent < n = omega (arith, c.requires, ap length c.self.view_is) in
    let P : List Node → Type 0 = λ u. AreLinks u (put_link n (n + 2) (put_link n (n + 1) (put_link c.args.parent n a.links.items))) in
    let Q : List Link → Type 0 = λ ls. AreLinks c.fork.new.self ls in
    let one = c.put_last.ensures.links ∙ ap (put_link c.args.parent f) c.reserve.ensures.items in
    let two = c.put_last-2.ensures.links ∙ ap (put_link f (f + 1)) one in
    let three = c.put_last-3.ensures.links ∙ ap (put_link f (f + 2)) two in
    let links : c.put_last-3.new.links.items ≡ put_link n (n + 2) (put_link n (n + 1) (put_link c.args.parent n a.links.items)) = three ∙ ap (λ m. put_link m (m + 2) (put_link m (m + 1) (put_link c.args.parent m a.links.items))) here in
    subst Q (sym links) (subst P (sym c.in_ok-fork.ensures.ok) (links_forked a.tree c.args.parent c.args.stamp (omega arith) c.nodes.ensures.numbered.rooted there a.links.items c.self.invariant))
