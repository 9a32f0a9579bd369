use Rattle.std.proofs.Common.{◌↔◌}
use Rattle.std.specs.Prelude.{IsTrue}
use Rattle.std.proofs.lemmas.Result.{IfOk-weaker}
use Rattle.cw_sheet.specs.Contents.{contents_of}
use Rattle.cw_audit.specs.Parts.{CanHaveDone, EndHolds, first_values, strands_of_sheet}
use Rattle.cw_audit.proofs.parts.end_holds.Goals as goal

pub returns-then-not-has_memory : goal.returns-then-not-has_memory
returns-then-not-has_memory c =
    let sheet = c.args.sheet.now in
    let told = c.has_memory.ensures sheet.tree (first_values (contents_of sheet)) c.requires.left in
    (λ e. absurd (cc e), λ w. absurd (cc (told.1 w.memory, c.if-not-has_memory.true)))

pub returns-in-Finished : goal.returns-in-Finished
returns-in-Finished c =
    let sheet = c.args.sheet.now in
    let first = first_values (contents_of sheet) in
    let s = strands_of_sheet (contents_of sheet) in
    let faulted = c.may_fault.ensures.0 c.if-not-may_fault.false in
    let memory = (c.has_memory.ensures sheet.tree first c.requires.left).0 c.if-not-has_memory.false in
    IfOk-weaker c.can_have_done.result (λ b. IsTrue b ↔ CanHaveDone s sheet.tree sheet.end) (λ b. IsTrue b ↔ EndHolds s sheet.tree first sheet.end)
    (λ b w. (λ e. record { faulted = faulted; memory = memory; done = w.0 e }, λ h. w.1 h.done)) c.can_have_done.ensures
