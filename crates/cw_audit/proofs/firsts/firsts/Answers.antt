use Rattle.std.proofs.Common.{arith, ap, length, ◌<◌, None}
use Rattle.std.proofs.lemmas.List.{get_or_read}
use Rattle.cw_audit.proofs.Following.{firsts_start, firsts_step}
use Rattle.cw_audit.proofs.firsts.firsts.Goals as goal

pub loop-n-init : goal.loop-n-init
loop-n-init c = firsts_start c.args.tree.now c.in_ok-firsts.firsts.items c.in_ok-firsts.ensures

pub loop-n-preserved : goal.loop-n-preserved
loop-n-preserved c =
    let t = c.args.tree.now in
    let n = c.loop-n.n in
    let w = c.loop-n.invariant in
    let firsts = c.loop-n.firsts.items in
    let some = w.some in
    let len = w.len in
    let there : n < length t = omega (arith, ap length c.nodes.ensures.nodes) in
    let low = c.parent.ensures.low some in
    let beside = get_or_read firsts n c.index-beside.result.now (omega arith) c.index-beside.ensures None in
    let above = get_or_read firsts c.parent.result c.index-above.result.now (omega arith) c.index-above.ensures None in
    firsts_step t c.nodes.ensures.numbered.rooted n there firsts w c.parent.result c.index-beside.result.now c.index-above.result.now c.lesser.result c.parent.ensures.parent beside above c.lesser.ensures
