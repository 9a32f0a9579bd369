use Rattle.std.proofs.Common.{◌<◌, ◌++◌, ◌∙◌, List, length, reverse, ap, sym, subst}
use Rattle.cw_tree.specs.declared.node.Node.{Node}
use Rattle.cw_tree.specs.Series.{children}
use Rattle.cw_tree.proofs.InOrder.DepthFirst.{by_number, taken_there, walk_goes_on, walk_smaller}
use Rattle.cw_tree.proofs.tree.Tree.depth_first.Goals as goal

pub push_children-requires : goal.push_children-requires
push_children-requires c =
    let t = c.args.self.now in
    let P : List Node → Type 0 = λ s. c.in-Some.n < length s in
    subst P (sym c.in_ok-family.ensures) (taken_there t c.nodes.ensures.numbered.rooted (children t) (by_number t) c.loop-n.order.items c.loop-n.stack.items c.pop.new.self.items c.in-Some.n c.loop-n.invariant c.in-Some.ensures.items)

pub loop-n-smaller : goal.loop-n-smaller
loop-n-smaller c =
    let t = c.args.self.now in
    let put = c.in_ok-push_children.ensures ∙ ap (λ (s : List Node). c.pop.new.self.items ++ reverse (children s c.in-Some.n)) c.in_ok-family.ensures in
    walk_smaller t c.nodes.ensures.numbered.rooted (children t) (by_number t) c.loop-n.order.items c.loop-n.stack.items c.pop.new.self.items c.in-Some.n c.loop-n.invariant c.in-Some.ensures.items
    c.push_children.new.stack.items put

pub loop-n-preserved : goal.loop-n-preserved
loop-n-preserved c =
    let t = c.args.self.now in
    let put = c.in_ok-push_children.ensures ∙ ap (λ (s : List Node). c.pop.new.self.items ++ reverse (children s c.in-Some.n)) c.in_ok-family.ensures in
    walk_goes_on t c.nodes.ensures.numbered.rooted (children t) (by_number t) c.loop-n.order.items c.loop-n.stack.items c.pop.new.self.items c.in-Some.n c.loop-n.invariant c.in-Some.ensures.items
    c.push_children.new.stack.items put c.push-in-Some.new.self.items c.in_ok-push-2.ensures.items
