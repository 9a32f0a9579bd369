use Rattle.std.proofs.Common.{◌↔◌, sym, ◌∙◌, subst}
use Rattle.std.specs.Prelude.{IsTrue}
use Rattle.std.proofs.lemmas.Result.{IfOk-weaker}
use Rattle.cw_record.specs.declared.record_end.RecordEnd.{RecordEnd}
use Rattle.cw_sheet.specs.Contents.{contents_of}
use Rattle.cw_audit.specs.Parts.{CanHaveDone, StrandsHold, strands_of_sheet}
use Rattle.cw_audit.proofs.parts.strands_hold.Goals as goal

pub returns : goal.returns
returns c =
    let sheet = c.args.sheet.now in
    let k = contents_of sheet in
    let P : RecordEnd → Type 0 = λ e. CanHaveDone (strands_of_sheet k) sheet.tree e in
    let words = c.takes_its_words.ensures.0 c.if-not-takes_its_words.false in
    let limits = c.are_in_range.ensures.0 c.if-not-are_in_range.false in
    let named = sym c.names_strand.ensures ∙ c.if-not-names_strand.false in
    let places = c.in_ok-stop_in_place.ensures.0 c.if-not-branch.false in
    IfOk-weaker c.can_have_done.result (λ b. IsTrue b ↔ P c.unfinished-end.result) (λ b. IsTrue b ↔ StrandsHold k)
    (λ b w. (
      λ e. record { words = words; limits = limits; named = named; pending_last = places.0; rolls_back = places.1; done = subst P c.unfinished-end.ensures (w.0 e) },
      λ h. w.1 (subst P (sym c.unfinished-end.ensures) h.done),
    )) c.can_have_done.ensures
