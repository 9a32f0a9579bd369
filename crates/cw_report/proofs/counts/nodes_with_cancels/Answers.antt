use Rattle.std.proofs.Common.{arith, ap, sym, ◌+◌, ◌<◌, Bool, length, set, subst}
use Rattle.std.specs.Prelude.{◌||◌}
use Rattle.cw_report.proofs.Cancels.{Met, met_end, met_step}
use Rattle.cw_report.proofs.counts.nodes_with_cancels.Goals as goal

pub loop-n-preserved : goal.loop-n-preserved
loop-n-preserved c =
    let t = c.args.tree.now in
    let q = c.parent-parent.result in
    let there : q < length t = omega (arith, c.parent-parent.ensures.low c.loop-n.invariant.some, ap length c.nodes-count.ensures.nodes) in
    let P : Bool → Type 0 = λ b. Met t (c.loop-n.n + 1) (set c.loop-n.cancels.items q (c.index_mut.result.now || b)) in
    subst P (sym c.is_cancel_leaf.ensures)
    (met_step t c.loop-n.n c.loop-n.cancels.items c.loop-n.invariant q c.parent-parent.ensures.parent c.index_mut.result.now there c.index_mut.ensures.value)

pub returns : goal.returns
returns c =
    let len = ap length c.nodes-count.ensures.nodes in
    met_end c.args.tree.now c.loop-n.n c.loop-n.cancels.items c.loop-n.invariant (omega arith) (λ h. omega arith)
