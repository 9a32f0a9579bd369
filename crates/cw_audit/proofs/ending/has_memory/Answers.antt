use Rattle.std.proofs.Common.{ℤ, List, sym, subst, ◌∙◌}
use Rattle.std.proofs.lemmas.Slice.Eq.{slice_eq-Decides}
use Rattle.std.proofs.lemmas.Bool.Decides.{Decides-int_eq}
use Rattle.cw_record.specs.declared.record_end.RecordEnd.{RecordEnd}
use Rattle.cw_record.specs.Coherent.{IsMemory, HasMemory}
use Rattle.cw_audit.proofs.Remembered.{one_memory}
use Rattle.cw_audit.proofs.ending.has_memory.Goals as goal

pub returns-in-Finished : goal.returns-in-Finished
returns-in-Finished c =
    λ t first left.
    let d = slice_eq-Decides Decides-int_eq _ _ _ c.eq.ensures in
    let P : List ℤ → Type 0 = λ m. IsMemory t first m in
    let Q : RecordEnd → Type 0 = λ e. HasMemory t first e in
    let same = sym c.as_slice.ensures in (
      λ e. subst Q (sym c.in-Finished.is) (subst P (sym (same ∙ d.0 e)) left),
      λ w. d.1 (c.as_slice.ensures ∙ one_memory t first c.args.left.now c.in-Finished.memory left (subst Q c.in-Finished.is w)),
    )
