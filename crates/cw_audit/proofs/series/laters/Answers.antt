use Rattle.std.proofs.Common.{arith, ap, length, ◌<◌, false, rules}
use Rattle.std.proofs.lemmas.List.{get_or_read}
use Rattle.cw_tree.proofs.Walks.There.{strand_there}
use Rattle.cw_audit.proofs.Coming.{laters_start, laters_step, laters_end}
use Rattle.cw_audit.proofs.series.laters.Goals as goal

pub loop-n-init : goal.loop-n-init
loop-n-init c =
    laters_start c.args.tree.now (length c.nodes-count.result.now) c.in_ok-laters.laters.items c.in_ok-met.met.items (strand_there c.args.tree.now 0 c.nodes-count.ensures.numbered.root) (ap length c.nodes-count.ensures.nodes)
    (c.in_ok-laters.ensures.items_if_clones_equal (λ y e. search rules)) (c.in_ok-met.ensures.items_if_clones_equal (λ y e. search rules))

pub loop-n-preserved : goal.loop-n-preserved
loop-n-preserved c =
    let t = c.args.tree.now in
    let w = c.loop-n.invariant in
    let low = w.low in
    let test = c.loop-n-test.true in
    let less = c.parent-parent.ensures.low (omega arith) in
    let there : c.parent-parent.result < length t = omega arith in
    laters_step t c.loop-n.n c.loop-n.laters.items c.loop-n.met.items w test c.parent-parent.result there c.parent-parent.ensures.parent c.index.result.now
    (get_or_read c.loop-n.met.items c.parent-parent.result c.index.result.now (omega (arith, w.met_len)) c.index.ensures false)

pub returns : goal.returns
returns c = laters_end c.args.tree.now c.loop-n.n c.loop-n.laters.items c.loop-n.met.items c.loop-n.invariant c.loop-n-test.false
