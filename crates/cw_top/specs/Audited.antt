-- What a check says: the answer of an audit of the sheet that its source has.
use Rattle.std.specs.Prelude.{◌≡◌, ◌≢◌, ℕ, List, ◌++◌, codes, Option, Some, None, Ok, IfSome, IsSomeAnd}
use Rattle.std.specs.Fmt.{decimal}
use Rattle.cw_record.specs.declared.record.Record.{Record}
use Rattle.cw_report.specs.Results.{line}
use Rattle.cw_sheet.specs.Contents.{Contents}
use Rattle.cw_sheet.specs.Reading.{sheet_reading}
use Rattle.cw_audit.specs.declared.findings.Audit.{Audit}
use Rattle.cw_audit.specs.declared.findings.Audit.TheVariants.{Sound, Broken}
use Rattle.cw_audit.specs.Audits.{IsAudit}
use Rattle.cw_io.specs.Outside.{Appends}
use Rattle.cw_words.specs.declared.command.Command.{Command}
use Rattle.cw_words.specs.declared.command.Command.TheVariants.{Check}
use Rattle.cw_top.specs.declared.outcome.Note.{Note}
use Rattle.cw_top.specs.declared.outcome.Note.TheVariants as note
use Rattle.cw_top.specs.Taken.{HasAnswered}
use Rattle.cw_top.specs.Written.{IsTextOfCommand, StillTells, Tells, Writes, WritesEndOfOneMemory}

-- the audit of the sheet that these bytes are
abbrev pub IsAuditOf : List ℕ → Audit → Type 0
IsAuditOf bytes a = (c : Contents) × (sheet_reading bytes ≡ Ok c) × IsAudit c a

abbrev pub audit_text : Audit → List ℕ
audit_text Sound = line (codes "sound")
audit_text (Broken part) = line (codes "broken " ++ decimal part)

abbrev pub audit_status : Audit → ℕ
audit_status Sound = 0
audit_status (Broken part) = 11

-- The text of the answer, if the check has answered, even if a write of it failed. Otherwise there is none.
abbrev pub answer_owed : Note → Audit → Option (List ℕ)
answer_owed note.Nothing a = Some (audit_text a)
answer_owed note.Write a = Some (audit_text a)
answer_owed n a = None

-- The status is that of the answer. The text of the answer was written, or its first bytes if the write failed. If the check has not
-- answered, nothing was written. Unless a write failed, the sink still tells what it got.
pub record TellsAnswer (a : Audit) (status : ℕ) (n : Note) (old new : Option (List ℕ)) (before after : ℕ → Type 0) : Type 0 where
  pub is_status : n ≡ note.Nothing → status ≡ audit_status a
  pub written : Writes (answer_owed n a) n old new
  pub tells : status ≢ 4 → StillTells (answer_owed n a) before after old new

-- The text of some answer was written. If the check has answered, it is the answer to the sheet.
pub record TellsAudit (left : Option (List ℕ)) (status : ℕ) (n : Note) (old new : Option (List ℕ)) (before after : ℕ → Type 0) : Type 0 where
  pub answer : Audit
  pub its : HasAnswered (Some Check) n → IfSome left (λ bytes. IsAuditOf bytes answer)
  pub told : TellsAnswer answer status n old new before after

-- What was written: for a check its answer, for any other command the text of its run.
abbrev pub TellsBy : Option Command → (left : Option (List ℕ)) → Option Record → (status : ℕ) → Note → (old new : Option (List ℕ)) → (before after : ℕ → Type 0) → Type 0
TellsBy (Some Check) left kept status n old new before after = TellsAudit left status n old new before after
TellsBy command left kept status n old new before after = Tells (IsTextOfCommand command left) kept status n old new before after

-- The sheet has this answer, and the answer was written.
abbrev pub WritesAudit : (left old new : Option (List ℕ)) → Audit → Type 0
WritesAudit left old new a = IfSome left (λ bytes. IsAuditOf bytes a) × Appends old new (audit_text a)

-- A run finished, and the text of what one memory comes to was written; or the sheet is sound, and that was written.
abbrev pub EndsWell : Option Command → (left : Option (List ℕ)) → Option Record → (old new : Option (List ℕ)) → Type 0
EndsWell (Some Check) left kept old new = WritesAudit left old new Sound
EndsWell command left kept old new = IsSomeAnd kept (λ r. WritesEndOfOneMemory command left r old new)

-- A part of the sheet is broken, which is the first one, and that was written. Only a check finds that.
abbrev pub FindsBroken : Option Command → (left old new : Option (List ℕ)) → Type 0
FindsBroken (Some Check) left old new = (part : ℕ) × WritesAudit left old new (Broken part)
FindsBroken command left old new = ⊥
