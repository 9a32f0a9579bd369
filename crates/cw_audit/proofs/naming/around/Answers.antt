use Rattle.std.proofs.Common.{arith, ap, length, ◌<◌, ◌≡◌, ◌∙◌}
use Rattle.cw_audit.specs.Naming.{around_in}
use Rattle.cw_audit.proofs.GivenUp.{around_more}
use Rattle.cw_audit.proofs.naming.around.Goals as goal

pub loop-n-preserved : goal.loop-n-preserved
loop-n-preserved c =
    let t = c.args.tree.now in
    let cancels = c.args.cancels.now in
    let around = c.loop-n.around.items in
    let n = c.loop-n.n in
    let there : n < length t = omega (arith, ap length c.nodes-count.ensures.nodes) in
    let new : c.around_in-nearest.result ≡ around_in cancels around c.parent-parent.result = c.around_in-nearest.ensures ∙ ap (λ xs. around_in cancels xs c.parent-parent.result) c.as_slice.ensures.value in
    around_more t cancels c.nodes-count.ensures.numbered.rooted n c.parent-parent.result around c.loop-n.invariant there c.parent-parent.ensures.parent c.around_in-nearest.result new
