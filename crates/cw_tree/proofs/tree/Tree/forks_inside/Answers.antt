use Rattle.std.proofs.Common.{arith, ap, ◌∙◌, length}
use Rattle.cw_tree.proofs.Names.PassDown.{down_start, children_fit, own_counted, down_fits, down_step}
use Rattle.cw_tree.proofs.tree.Tree.forks_inside.Goals as goal

pub loop-n-init : goal.loop-n-init
loop-n-init c =
    down_start c.args.self.now c.nodes-count.ensures.numbered.rooted (length c.nodes-count.result.now) c.in_ok-inside.inside.items (ap length c.nodes-count.ensures.nodes) (c.in_ok-inside.ensures.items_if_clones_equal (λ y e. e))

pub loop-n-preserved : goal.loop-n-preserved
loop-n-preserved c =
    let root = c.nodes-count.ensures.numbered.rooted in
    down_step c.args.self.now root c.loop-n.n c.loop-n.inside.items c.loop-n.invariant c.loop-n-test.true c.forks_at-own.result c.parent.result c.index_mut-in-loop-n.result.now
    (c.forks_at-own.ensures ∙ own_counted c.args.self.now root c.loop-n.n c.loop-n.inside.items c.loop-n.invariant c.loop-n-test.true c.index.result.now c.index.ensures) c.parent.ensures.parent c.index_mut-in-loop-n.ensures.value

pub forks_at-own-requires-clause-fits : goal.forks_at-own-requires-clause-fits
forks_at-own-requires-clause-fits c =
    let few = c.nodes-count.ensures.numbered.few in
    omega (arith, children_fit c.args.self.now c.nodes-count.ensures.numbered.rooted c.loop-n.n c.loop-n.inside.items c.loop-n.invariant c.loop-n-test.true c.index.result.now c.index.ensures)

pub overflow_add-index_mut : goal.overflow_add-index_mut
overflow_add-index_mut c =
    let root = c.nodes-count.ensures.numbered.rooted in
    let few = c.nodes-count.ensures.numbered.few in
    omega (
      arith,
      down_fits c.args.self.now root c.loop-n.n c.loop-n.inside.items c.loop-n.invariant c.loop-n-test.true c.forks_at-own.result c.parent.result c.index_mut-in-loop-n.result.now
          (c.forks_at-own.ensures ∙ own_counted c.args.self.now root c.loop-n.n c.loop-n.inside.items c.loop-n.invariant c.loop-n-test.true c.index.result.now c.index.ensures) c.parent.ensures.parent c.index_mut-in-loop-n.ensures.value,
    )
