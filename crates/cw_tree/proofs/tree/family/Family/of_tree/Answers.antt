use Rattle.std.proofs.Common.{arith, ap, ◌<◌, ◌≤◌, length, rules}
use Rattle.cw_tree.proofs.Walks.Children.{met_start, met_step, met_end_last, met_end_before}
use Rattle.cw_tree.proofs.tree.family.Family.of_tree.Goals as goal

pub loop-n-init : goal.loop-n-init
loop-n-init c =
    met_start c.args.tree.now (length c.nodes-count.result.now) c.in_ok-last.last.items c.in_ok-before.before.items (ap length c.nodes-count.ensures.nodes)
    (c.in_ok-last.ensures.items_if_clones_equal (λ y e. search rules)) (c.in_ok-before.ensures.items_if_clones_equal (λ y e. search rules))

pub loop-n-preserved : goal.loop-n-preserved
loop-n-preserved c =
    let there : c.loop-n.n < length c.args.tree.now = omega (arith, ap length c.nodes-count.ensures.nodes) in
    met_step c.args.tree.now c.loop-n.n c.loop-n.last.items c.loop-n.before.items c.loop-n.invariant there c.parent-parent.result (c.parent-parent.ensures.low c.loop-n.invariant.some) c.parent-parent.ensures.parent
    c.index.result.now c.index.ensures

pub invariant_of-result : goal.invariant_of-result
invariant_of-result c =
    let t = c.args.tree.now in
    let all : length t ≤ c.loop-n.n = omega (arith, ap length c.nodes-count.ensures.nodes) in
    record {
      last = met_end_last t c.loop-n.n c.loop-n.last.items c.loop-n.before.items c.loop-n.invariant all (λ h. omega (arith, ap length c.nodes-count.ensures.nodes));
      before = met_end_before t c.loop-n.n c.loop-n.last.items c.loop-n.before.items c.loop-n.invariant all;
    }
