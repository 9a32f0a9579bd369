use Rattle.std.proofs.Common.{ℤ, List, sym, subst, ap, ◌∙◌}
use Rattle.std.proofs.lemmas.Slice.Eq.{slice_eq-Decides}
use Rattle.std.proofs.lemmas.Bool.Decides.{Decides-int_eq}
use Rattle.cw_record.specs.declared.record_end.RecordEnd.{RecordEnd}
use Rattle.cw_record.specs.Coherent.{HasOutputs, outputs_shown}
use Rattle.cw_record.specs.Items.{items}
use Rattle.cw_audit.proofs.outputs.has_outputs.Goals as goal

pub returns : goal.returns
returns c =
    let t = c.args.tree.now in
    let cs = c.args.conflicts.now in
    let d = slice_eq-Decides Decides-int_eq _ _ _ c.eq.ensures in
    let P : RecordEnd → Type 0 = λ e. HasOutputs t cs c.args.aborts e in
    let shown : RecordEnd → List ℤ = λ e. outputs_shown t (items t cs c.args.aborts e) in
    let left = c.as_slice.ensures in
    let right = c.as_slice-2.ensures ∙ c.in_ok-shown.ensures ∙ ap shown c.in-Finished.is in (
      λ e. subst P (sym c.in-Finished.is) (sym left ∙ d.0 e ∙ right),
      λ w. d.1 (left ∙ subst P c.in-Finished.is w ∙ sym right),
    )
