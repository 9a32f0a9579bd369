use Rattle.std.proofs.Common.{arith, ◌<◌, length}
use Rattle.cw_sheet.proofs.Beneath.{met_end, met_step}
use Rattle.cw_sheet.proofs.judging.all_beneath.Goals as goal

pub loop-n-preserved : goal.loop-n-preserved
loop-n-preserved c =
    let t = c.args.nodes.now in
    let low : c.parent_of-parent.result < length t = omega arith in
    rw (c.beneath_more.ensures, c.is_strand.ensures)
    (met_step t c.loop-n.n c.loop-n.beneath.items c.loop-n.invariant c.parent_of-parent.result c.parent_of-parent.ensures c.index.result.now low c.index.ensures)

pub returns : goal.returns
returns c = met_end c.args.nodes.now c.loop-n.n c.loop-n.beneath.items c.loop-n.invariant (omega arith) (λ h. omega arith)
