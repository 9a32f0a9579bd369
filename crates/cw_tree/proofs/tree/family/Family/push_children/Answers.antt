use Rattle.std.proofs.Common.{◌∙◌, arith, ap, sym, ℕ, List, length, map, subst}
use Rattle.cw_tree.specs.declared.node.Node.{Node}
use Rattle.cw_tree.specs.Nodes.{all_nodes}
use Rattle.cw_tree.proofs.Lists.{length_map_below}
use Rattle.cw_tree.specs.Links.{last_child, child_before}
use Rattle.cw_tree.proofs.Walks.Children.{Pushing, push_start, push_step, push_smaller}
use Rattle.cw_tree.proofs.tree.family.Family.push_children.Goals as goal

pub index-next-requires : goal.index-next-requires
index-next-requires c =
    let t = c.self.inside.tree.now in
    omega (arith, ap length c.self.invariant.last, length_map_below (last_child t) (length t), ap length c.self.view_is, c.requires)

pub loop-next-init : goal.loop-next-init
loop-next-init c =
    let last = c.self.invariant.last ∙ ap (λ (s : List Node). map (last_child s) (all_nodes s)) c.self.view_is in
    push_start c.args.self.now c.args.n c.args.stack.now.items c.self.inside.last.items c.index-next.result.now last c.requires c.index-next.ensures

pub index-next-requires-in-Some : goal.index-next-requires-in-Some
index-next-requires-in-Some c =
    let t = c.self.inside.tree.now in
    let z = c.loop-next.invariant.child c.in-Some.child c.in-Some.is in
    omega (arith, z.0, ap length c.self.invariant.before, length_map_below (child_before t) (length t), ap length c.self.view_is)

pub loop-next-smaller : goal.loop-next-smaller
loop-next-smaller c =
    let before = c.self.invariant.before ∙ ap (λ (s : List Node). map (child_before s) (all_nodes s)) c.self.view_is in
    push_smaller c.args.self.now c.args.n c.args.stack.now.items c.loop-next.stack.items c.loop-next.next c.loop-next.invariant c.in-Some.child c.in-Some.is
    c.self.inside.before.items c.index-next-in-Some.result.now before c.index-next-in-Some.ensures

pub loop-next-preserved : goal.loop-next-preserved
loop-next-preserved c =
    let t = c.args.self.now in
    let before = c.self.invariant.before ∙ ap (λ (s : List Node). map (child_before s) (all_nodes s)) c.self.view_is in
    let P : List ℕ → Type 0 = λ xs. Pushing t c.args.n c.args.stack.now.items xs c.index-next-in-Some.result.now in
    subst P (sym c.in_ok-push.ensures.items) (
    push_step t c.args.n c.args.stack.now.items c.loop-next.stack.items c.loop-next.next c.loop-next.invariant c.in-Some.child c.in-Some.is
    c.self.inside.before.items c.index-next-in-Some.result.now before c.index-next-in-Some.ensures
    )
