use Rattle.std.proofs.Common.{◌<◌, ◌++◌, ◌∙◌, List, length, reverse, ap, sym, subst}
use Rattle.cw_tree.specs.declared.node.Node.{Node}
use Rattle.cw_tree.proofs.InOrder.DepthFirst.{taken_there, walk_goes_on, walk_smaller}
use Rattle.cw_sp.specs.Orders.{mirrored}
use Rattle.cw_sp.proofs.Orders.{by_mirror}
use Rattle.cw_sp.proofs.pairs.hebrew_order.Goals as goal

pub push_mirrored-requires : goal.push_mirrored-requires
push_mirrored-requires c =
    let t = c.args.tree.now in
    let P : List Node → Type 0 = λ s. c.in-Some.n < length s in
    subst P (sym c.in_ok-family.ensures) (
    taken_there t c.requires.rooted (mirrored t) (by_mirror t c.requires) c.loop-n.order.items c.loop-n.stack.items c.pop.new.self.items c.in-Some.n c.loop-n.invariant c.in-Some.ensures.items
    )

pub loop-n-smaller : goal.loop-n-smaller
loop-n-smaller c =
    let t = c.args.tree.now in
    let put = c.in_ok-push_mirrored.ensures ∙ ap (λ (s : List Node). c.pop.new.self.items ++ reverse (mirrored s c.in-Some.n)) c.in_ok-family.ensures in
    walk_smaller t c.requires.rooted (mirrored t) (by_mirror t c.requires) c.loop-n.order.items c.loop-n.stack.items c.pop.new.self.items c.in-Some.n c.loop-n.invariant c.in-Some.ensures.items
    c.push_mirrored.new.stack.items put

pub loop-n-preserved : goal.loop-n-preserved
loop-n-preserved c =
    let t = c.args.tree.now in
    let put = c.in_ok-push_mirrored.ensures ∙ ap (λ (s : List Node). c.pop.new.self.items ++ reverse (mirrored s c.in-Some.n)) c.in_ok-family.ensures in
    walk_goes_on t c.requires.rooted (mirrored t) (by_mirror t c.requires) c.loop-n.order.items c.loop-n.stack.items c.pop.new.self.items c.in-Some.n c.loop-n.invariant c.in-Some.ensures.items
    c.push_mirrored.new.stack.items put c.push-in-Some.new.self.items c.in_ok-push-2.ensures.items
