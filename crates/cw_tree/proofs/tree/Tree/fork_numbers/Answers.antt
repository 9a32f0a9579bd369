use Rattle.std.proofs.Common.{arith, ap, ◌∙◌, ◌<◌, length}
use Rattle.cw_tree.proofs.Names.PassUp.{up_start, up_step, up_end, number_is, number_fits, sum_fits}
use Rattle.cw_tree.proofs.tree.Tree.fork_numbers.Goals as goal

pub loop-n-init : goal.loop-n-init
loop-n-init c =
    up_start c.args.self.now c.nodes-count.ensures.numbered.rooted (length c.nodes-count.result.now) c.in_ok-numbers.numbers.items c.in_ok-passed.passed.items (ap length c.nodes-count.ensures.nodes)
    (c.in_ok-numbers.ensures.items_if_clones_equal (λ y e. e)) (c.in_ok-passed.ensures.items_if_clones_equal (λ y e. e))

pub number_at-requires-clause-fits : goal.number_at-requires-clause-fits
number_at-requires-clause-fits c =
    let few = c.nodes-count.ensures.numbered.few in
    let there : c.loop-n.n < length c.args.self.now = omega (arith, ap length c.nodes-count.ensures.nodes) in
    omega (
      arith,
      number_fits c.args.self.now c.nodes-count.ensures.numbered.rooted c.loop-n.n c.loop-n.numbers.items c.loop-n.passed.items c.loop-n.invariant there c.parent-parent.result c.parent-parent.ensures.parent
          c.index.result.now c.index-in-loop-n.result.now c.index.ensures c.index-in-loop-n.ensures,
    )

pub overflow_add-index_mut : goal.overflow_add-index_mut
overflow_add-index_mut c =
    let few = c.nodes-count.ensures.numbered.few in
    let there : c.loop-n.n < length c.args.self.now = omega (arith, ap length c.nodes-count.ensures.nodes) in
    omega (
      arith,
      sum_fits c.args.self.now c.nodes-count.ensures.numbered.rooted c.loop-n.n c.loop-n.numbers.items c.loop-n.passed.items c.loop-n.invariant there c.parent-parent.result c.parent-parent.ensures.parent
          c.index.result.now c.index_mut-in-loop-n.result.now c.index.ensures c.index_mut-in-loop-n.ensures.value
          c.in_ok-inside.inside.items c.in_ok-inside.ensures.len c.in_ok-inside.ensures.forks c.index-in-loop-n-2.result.now c.index-in-loop-n-2.ensures,
    )

pub loop-n-preserved : goal.loop-n-preserved
loop-n-preserved c =
    let root = c.nodes-count.ensures.numbered.rooted in
    let there : c.loop-n.n < length c.args.self.now = omega (arith, ap length c.nodes-count.ensures.nodes) in
    up_step c.args.self.now root c.loop-n.n c.loop-n.numbers.items c.loop-n.passed.items c.loop-n.invariant there c.parent-parent.result c.parent-parent.ensures.parent
    c.index.result.now c.index_mut-in-loop-n.result.now c.index.ensures c.index_mut-in-loop-n.ensures.value
    c.in_ok-inside.inside.items c.in_ok-inside.ensures.len c.in_ok-inside.ensures.forks c.index-in-loop-n-2.result.now c.index-in-loop-n-2.ensures c.number_at.result
    (c.number_at.ensures
    ∙ number_is c.args.self.now root c.loop-n.n c.loop-n.numbers.items c.loop-n.passed.items c.loop-n.invariant there c.parent-parent.result c.parent-parent.ensures.parent
    c.index.result.now c.index-in-loop-n.result.now c.index.ensures c.index-in-loop-n.ensures)

pub returns : goal.returns
returns c = up_end c.args.self.now c.nodes-count.ensures.numbered.rooted c.loop-n.n c.loop-n.numbers.items c.loop-n.passed.items c.loop-n.invariant (omega (arith, ap length c.nodes-count.ensures.nodes))
