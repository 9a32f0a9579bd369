use Rattle.std.proofs.Common.{arith, ap, length, ◌<◌}
use Rattle.cw_audit.proofs.Rising.Before.{up_start, before_least, behind_least, up_step}
use Rattle.cw_audit.proofs.latest.floors.Goals as goal

pub loop-n-init : goal.loop-n-init
loop-n-init c =
    up_start c.args.tree.now (length c.nodes-count.result.now) c.in_ok-floors.floors.items c.in_ok-behind.behind.items c.nodes-count.ensures.numbered.root (ap length c.nodes-count.ensures.nodes)
    (c.in_ok-floors.ensures.items_if_clones_equal (λ y e. e)) (c.in_ok-behind.ensures.items_if_clones_equal (λ y e. e))

pub floor_inside-requires-clause-floor : goal.floor_inside-requires-clause-floor
floor_inside-requires-clause-floor c =
    let there : c.loop-n.n < length c.args.tree.now = omega (arith, ap length c.nodes-count.ensures.nodes) in
    before_least c.args.tree.now c.nodes-count.ensures.numbered.rooted c.loop-n.n c.loop-n.invariant.some there c.loop-n.floors.items c.loop-n.behind.items c.index-floor.result.now c.parent-parent.result c.loop-n.invariant c.parent-parent.ensures.parent c.index-floor.ensures

pub floor_behind-requires-clause-floor : goal.floor_behind-requires-clause-floor
floor_behind-requires-clause-floor c =
    let there : c.loop-n.n < length c.args.tree.now = omega (arith, ap length c.nodes-count.ensures.nodes) in
    behind_least c.args.tree.now c.nodes-count.ensures.numbered.rooted c.loop-n.n c.loop-n.invariant.some there c.loop-n.floors.items c.loop-n.behind.items c.index-floor.result.now c.parent-parent.result c.loop-n.invariant c.parent-parent.ensures.parent c.index-floor.ensures

pub loop-n-preserved : goal.loop-n-preserved
loop-n-preserved c =
    let t = c.args.tree.now in
    let r = c.nodes-count.ensures.numbered.rooted in
    let floor = c.index-floor.result.now in
    let there : c.loop-n.n < length t = omega (arith, ap length c.nodes-count.ensures.nodes) in
    let here = before_least t r c.loop-n.n c.loop-n.invariant.some there c.loop-n.floors.items c.loop-n.behind.items floor c.parent-parent.result c.loop-n.invariant c.parent-parent.ensures.parent c.index-floor.ensures in
    up_step t r c.loop-n.n c.loop-n.invariant.some there c.loop-n.floors.items c.loop-n.behind.items c.parent-parent.result floor c.floor_inside.result c.floor_behind.result c.loop-n.invariant c.parent-parent.ensures.parent here c.floor_inside.ensures c.floor_behind.ensures
