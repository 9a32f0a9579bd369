use Rattle.std.proofs.Common.{◌↔◌, List, subst}
use Rattle.std.specs.Prelude.{IsTrue, IfOk}
use Rattle.std.proofs.lemmas.Result.{IfOk-weaker}
use Rattle.cw_tree.specs.declared.conflict.Conflict.{Conflict}
use Rattle.cw_record.specs.Coherent.{HasOutputs}
use Rattle.cw_sheet.specs.Contents.{contents_of}
use Rattle.cw_audit.specs.Audits.{PartHolds, order}
use Rattle.cw_audit.proofs.Order.{order_is_outputs}
use Rattle.cw_audit.proofs.parts.order_holds.Goals as goal

pub returns : goal.returns
returns c =
    let sheet = c.args.sheet.now in
    let k = contents_of sheet in
    let is = order_is_outputs k c.requires.text.tree c.requires.text.source.named c.requires.before in
    let P : List Conflict → Type 0 = λ cs. IfOk c.has_outputs.result (λ b. IsTrue b ↔ HasOutputs sheet.tree cs sheet.limits.aborts sheet.end) in
    IfOk-weaker c.has_outputs.result (λ b. IsTrue b ↔ HasOutputs sheet.tree sheet.conflicts sheet.limits.aborts sheet.end) (λ b. IsTrue b ↔ PartHolds k order)
    (λ b w. (λ e. is.1 (w.0 e), λ h. w.1 (is.0 h))) (subst P c.as_slice-conflicts.ensures c.has_outputs.ensures)
