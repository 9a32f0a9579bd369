-- Why there is no run, why no sheet was judged, or why a text was not written, for each kind of error that functions of this crate return.
use Rattle.std.specs.Prelude.{◌≡◌, ℕ, List, Option, Some, IfSome}
use Rattle.cw_text.specs.declared.fault.TextRefusal.{TextRefusal}
use Rattle.cw_text.specs.declared.fault.TextRefusal.TheVariants as text
use Rattle.cw_compile.specs.declared.refusal.NameRefusal.{NameRefusal}
use Rattle.cw_compile.specs.declared.refusal.NameRefusal.TheVariants as naming
use Rattle.cw_top.specs.declared.outcome.Note.{Note}
use Rattle.cw_top.specs.declared.outcome.Note.TheVariants as note
use Rattle.cw_top.specs.declared.reasons.Stop.{Stop}
use Rattle.cw_top.specs.declared.reasons.Stop.TheVariants as stop
use Rattle.cw_top.specs.declared.reasons.Refusal.{Refusal}
use Rattle.cw_top.specs.declared.reasons.Refusal.TheVariants as refused
use Rattle.cw_top.specs.declared.reasons.NoRun.{NoRun}
use Rattle.cw_top.specs.declared.reasons.NoRun.TheVariants as no_run
use Rattle.cw_top.specs.declared.reasons.NoAudit.{NoAudit}
use Rattle.cw_top.specs.declared.reasons.NoAudit.TheVariants as no_audit
use Rattle.cw_sheet.specs.declared.sheet.SheetRefusal.{SheetRefusal}
use Rattle.cw_sheet.specs.declared.sheet.SheetRefusal.TheVariants as sheet
use Rattle.cw_top.specs.Refusals.{refusal, sheet_refusal}

abbrev pub of_text : TextRefusal → Refusal
of_text (text.Text f) = refused.Text f
of_text text.OutOfMemory = refused.OutOfMemory

abbrev pub of_name : NameRefusal → Refusal
of_name (naming.Name f) = refused.Name f
of_name naming.OutOfMemory = refused.OutOfMemory

abbrev pub of_sheet : SheetRefusal → NoAudit
of_sheet (sheet.Sheet f) = no_audit.Refused f
of_sheet sheet.OutOfMemory = no_audit.OutOfMemory

-- Reading stops because a read failed, or because memory ran out, which needs no cause.
abbrev pub WhyStopped : Stop → (read_failed : Type 0) → Type 0
WhyStopped stop.OutOfMemory read_failed = Unit {0}
WhyStopped stop.ReadFault read_failed = read_failed

-- Bytes are refused for their first fault, if no language after this one is read.
abbrev pub WhyRefused : (language : ℕ) → Refusal → List ℕ → Type 0
WhyRefused language refused.OutOfMemory bytes = Unit {0}
WhyRefused language (refused.Text f) bytes = refusal language bytes ≡ Some (note.Text f)
WhyRefused language (refused.Name f) bytes = refusal language bytes ≡ Some (note.Name f)

-- There is no run if reading stopped, if the bytes are refused, if the words do not fit, or if memory ran out.
abbrev pub WhyNoRun : (language : ℕ) → NoRun → (read_failed misfit : Type 0) (left : Option (List ℕ)) → Type 0
WhyNoRun language no_run.OutOfMemory read_failed misfit left = Unit {0}
WhyNoRun language (no_run.Stopped s) read_failed misfit left = WhyStopped s read_failed
WhyNoRun language (no_run.Refused r) read_failed misfit left = IfSome left (WhyRefused language r)
WhyNoRun language no_run.Misfit read_failed misfit left = misfit

-- Bytes are refused as a sheet for their first fault. Nothing else about them is a reason not to judge it.
abbrev pub WhyUnread : NoAudit → List ℕ → Type 0
WhyUnread (no_audit.Refused f) bytes = sheet_refusal bytes ≡ Some (note.Sheet f)
WhyUnread no_audit.OutOfMemory bytes = Unit {0}
WhyUnread (no_audit.Stopped s) bytes = ⊥

-- No sheet is judged if reading stopped, if the bytes are refused, or if memory ran out.
abbrev pub WhyNoAudit : NoAudit → (read_failed : Type 0) (left : Option (List ℕ)) → Type 0
WhyNoAudit no_audit.OutOfMemory read_failed left = Unit {0}
WhyNoAudit (no_audit.Stopped s) read_failed left = WhyStopped s read_failed
WhyNoAudit (no_audit.Refused f) read_failed left = IfSome left (λ bytes. sheet_refusal bytes ≡ Some (note.Sheet f))

abbrev pub note_of_stop : Stop → Note
note_of_stop stop.OutOfMemory = note.Memory
note_of_stop stop.ReadFault = note.Read

abbrev pub note_of_refusal : Refusal → Note
note_of_refusal refused.OutOfMemory = note.Memory
note_of_refusal (refused.Text f) = note.Text f
note_of_refusal (refused.Name f) = note.Name f

-- the note if there is no run
abbrev pub note_of : NoRun → Note
note_of no_run.OutOfMemory = note.Memory
note_of (no_run.Stopped s) = note_of_stop s
note_of (no_run.Refused r) = note_of_refusal r
note_of no_run.Misfit = note.Usage

-- the note if no sheet is judged
abbrev pub note_without_audit : NoAudit → Note
note_without_audit no_audit.OutOfMemory = note.Memory
note_without_audit (no_audit.Stopped s) = note_of_stop s
note_without_audit (no_audit.Refused f) = note.Sheet f
