-- What is known of a check: it keeps no run, and none of its statuses is that of a run but 0.
use Rattle.std.proofs.Common.{◌≡◌, ◌≢◌, ◌⊎◌, ◌∙◌, inl, inr, ℕ, List, Option, Some, None, Ok, Err, Result, IfSome, IsSomeAnd, refl, sym, subst, ap}
use Rattle.std.proofs.lemmas.Option.{same_Some}
use Rattle.cw_record.specs.declared.record.Record.{Record}
use Rattle.cw_sheet.specs.Contents.{Contents}
use Rattle.cw_sheet.specs.declared.sheet.SheetFault.{SheetFault}
use Rattle.cw_sheet.specs.Reading.{sheet_reading}
use Rattle.cw_audit.specs.declared.findings.Audit.{Audit}
use Rattle.cw_audit.specs.declared.findings.Audit.TheVariants.{Sound, Broken}
use Rattle.cw_words.specs.declared.command.Command.{Command}
use Rattle.cw_words.specs.declared.command.Command.TheVariants.{Run, Sim, Load, Keep, Races, Check}
use Rattle.cw_top.specs.declared.outcome.Note.{Note}
use Rattle.cw_top.specs.declared.outcome.Note.TheVariants as note
use Rattle.cw_top.specs.Audited.{IsAuditOf, TellsAnswer, TellsAudit, WritesAudit, answer_owed, audit_status, audit_text}
use Rattle.cw_top.specs.Outcome.{IsCauseOfCheck, IsCauseOfTelling, IsRefusedWith, IsStatus, IsStatusOfCheck, IsStatusOfRun, MayEndWith}
use Rattle.cw_top.specs.Refusals.{of_sheet_reading, sheet_refusal}
use Rattle.cw_top.specs.Taken.{IsUnreadFor}

-- A command is a check, which kept no run, or its status is that of a run.
abbrev pub IsOfCheck : Option Command → Option Record → ℕ → Note → Type 0
IsOfCheck command kept status n = (command ≡ Some Check) × (kept ≡ None) × IsStatusOfCheck status n

pub run_or_check : (command : Option Command) (kept : Option Record) (status : ℕ) (n : Note) → IsStatus command kept status n → IsStatusOfRun kept status n ⊎ IsOfCheck command kept status n
run_or_check None kept status n is = inl is
run_or_check (Some (Run ws ls wk p)) kept status n is = inl is
run_or_check (Some (Sim ws ls wk sc p)) kept status n is = inl is
run_or_check (Some (Load tr wk)) kept status n is = inl is
run_or_check (Some (Keep ws ls wk)) kept status n is = inl is
run_or_check (Some (Races ws ls)) kept status n is = inl is
run_or_check (Some Check) kept status n (none, is) = inr (refl, none, is)

-- ## Its statuses

abbrev pub IsNoneOfRuns : ℕ → Type 0
IsNoneOfRuns status = (status ≢ 2) × (status ≢ 5) × (status ≢ 7) × (status ≢ 8) × (status ≢ 9)

pub none_of_runs : (status : ℕ) (n : Note) → IsStatusOfCheck status n → IsNoneOfRuns status
none_of_runs status note.Nothing (inl is) = (λ h. cc, λ h. cc, λ h. cc, λ h. cc, λ h. cc)
none_of_runs status note.Nothing (inr is) = (λ h. cc, λ h. cc, λ h. cc, λ h. cc, λ h. cc)
none_of_runs status note.Usage is = absurd is
none_of_runs status note.Memory is = (λ h. cc, λ h. cc, λ h. cc, λ h. cc, λ h. cc)
none_of_runs status note.Read is = (λ h. cc, λ h. cc, λ h. cc, λ h. cc, λ h. cc)
none_of_runs status note.Write is = (λ h. cc, λ h. cc, λ h. cc, λ h. cc, λ h. cc)
none_of_runs status (note.Text f) is = absurd is
none_of_runs status (note.Name f) is = absurd is
none_of_runs status (note.Sheet f) is = (λ h. cc, λ h. cc, λ h. cc, λ h. cc, λ h. cc)

pub of_none_kept : (P : Record → Type 0) (kept : Option Record) → kept ≡ None → IfSome kept P
of_none_kept P kept none = subst (λ (k : Option Record). IfSome k P) (sym none) tt

-- ## Its causes

pub telling_of_check : (n : Note) (left : Option (List ℕ)) (r w : Type 0) → IsCauseOfTelling n w → IsCauseOfCheck n left r w
telling_of_check note.Nothing left r w cause = tt
telling_of_check note.Usage left r w cause = absurd cause
telling_of_check note.Memory left r w cause = tt
telling_of_check note.Read left r w cause = absurd cause
telling_of_check note.Write left r w cause = cause
telling_of_check (note.Text f) left r w cause = absurd cause
telling_of_check (note.Name f) left r w cause = absurd cause
telling_of_check (note.Sheet f) left r w cause = absurd cause

pub check_read : (status : ℕ) (n : Note) (left : Option (List ℕ)) (r w : Type 0) → IsStatusOfCheck status n → IsCauseOfCheck n left r w → status ≡ 3 → r
check_read status note.Nothing left r w (inl is) cause h = cc
check_read status note.Nothing left r w (inr is) cause h = cc
check_read status note.Usage left r w is cause h = absurd is
check_read status note.Memory left r w is cause h = cc
check_read status note.Read left r w is cause h = cause
check_read status note.Write left r w is cause h = cc
check_read status (note.Text f) left r w is cause h = absurd is
check_read status (note.Name f) left r w is cause h = absurd is
check_read status (note.Sheet f) left r w is cause h = cc

pub check_write : (status : ℕ) (n : Note) (left : Option (List ℕ)) (r w : Type 0) → IsStatusOfCheck status n → IsCauseOfCheck n left r w → status ≡ 4 → w
check_write status note.Nothing left r w (inl is) cause h = cc
check_write status note.Nothing left r w (inr is) cause h = cc
check_write status note.Usage left r w is cause h = absurd is
check_write status note.Memory left r w is cause h = cc
check_write status note.Read left r w is cause h = cc
check_write status note.Write left r w is cause h = cause
check_write status (note.Text f) left r w is cause h = absurd is
check_write status (note.Name f) left r w is cause h = absurd is
check_write status (note.Sheet f) left r w is cause h = cc

pub check_unread : (status : ℕ) (n : Note) (left : Option (List ℕ)) (r w : Type 0) → IsStatusOfCheck status n → IsCauseOfCheck n left r w → status ≡ 10 → IsUnreadFor (Some Check) n left
check_unread status note.Nothing left r w (inl is) cause h = cc
check_unread status note.Nothing left r w (inr is) cause h = cc
check_unread status note.Usage left r w is cause h = absurd is
check_unread status note.Memory left r w is cause h = cc
check_unread status note.Read left r w is cause h = cc
check_unread status note.Write left r w is cause h = cc
check_unread status (note.Text f) left r w is cause h = absurd is
check_unread status (note.Name f) left r w is cause h = absurd is
check_unread status (note.Sheet f) left r w is cause h = cause

-- which statuses come, if neither a read nor a write fails
pub check_ends : (status : ℕ) (n : Note) (left : Option (List ℕ)) (r w : Type 0) → IsStatusOfCheck status n → IsCauseOfCheck n left r w → (r → ⊥) → (w → ⊥) → MayEndWith (Some Check) status
check_ends status note.Nothing left r w (inl is) cause no_r no_w = inl is
check_ends status note.Nothing left r w (inr is) cause no_r no_w = inr (inr (inl is))
check_ends status note.Usage left r w is cause no_r no_w = absurd is
check_ends status note.Memory left r w is cause no_r no_w = inr (inr (inr is))
check_ends status note.Read left r w is cause no_r no_w = absurd (no_r cause)
check_ends status note.Write left r w is cause no_r no_w = absurd (no_w cause)
check_ends status (note.Text f) left r w is cause no_r no_w = absurd is
check_ends status (note.Name f) left r w is cause no_r no_w = absurd is
check_ends status (note.Sheet f) left r w is cause no_r no_w = inr (inl is)

-- ## Its answer

-- a sheet that was judged is not refused
judged_read : (left : Option (List ℕ)) (a : Audit) (fault : Note) → IfSome left (λ bytes. IsAuditOf bytes a) → IsSomeAnd left (λ bytes. sheet_refusal bytes ≡ Some fault) → ⊥
judged_read None a fault its why = why
judged_read (Some bytes) a fault (c, read, is) why = let none : sheet_refusal bytes ≡ None = ap of_sheet_reading read in cc

same_unread : (left : Option (List ℕ)) (n fault : Note) → IsSomeAnd left (λ bytes. sheet_refusal bytes ≡ Some fault) → IfSome left (λ bytes. sheet_refusal bytes ≡ Some n) → n ≡ fault
same_unread None n fault why is = absurd why
same_unread (Some bytes) n fault why is = same_Some n fault (sym is ∙ why)

module _ (status : ℕ) (left old new : Option (List ℕ)) (before after : ℕ → Type 0) where
  pub check_refuses : (n : Note) (r w : Type 0) → IsStatusOfCheck status n → IsCauseOfCheck n left r w → TellsAudit left status n old new before after → (fault : Note) → IsSomeAnd left (λ bytes. sheet_refusal bytes ≡ Some fault) → (r → ⊥) → IsRefusedWith (Some Check) fault status n
  check_refuses note.Nothing r w is cause told fault why no_r = absurd (judged_read left told.answer fault (told.its tt) why)
  check_refuses note.Usage r w is cause told fault why no_r = absurd is
  check_refuses note.Memory r w is cause told fault why no_r = inr is
  check_refuses note.Read r w is cause told fault why no_r = absurd (no_r cause)
  check_refuses note.Write r w is cause told fault why no_r = absurd (judged_read left told.answer fault (told.its tt) why)
  check_refuses (note.Text f) r w is cause told fault why no_r = absurd is
  check_refuses (note.Name f) r w is cause told fault why no_r = absurd is
  check_refuses (note.Sheet f) r w is cause told fault why no_r = inl (is, same_unread left (note.Sheet f) fault why cause)

  sound_by : (a : Audit) → IfSome left (λ bytes. IsAuditOf bytes a) → TellsAnswer a status note.Nothing old new before after → status ≡ 0 → WritesAudit left old new Sound
  sound_by Sound its told zero = (its, told.written)
  sound_by (Broken part) its told zero = let is = told.is_status refl in cc

  pub check_sound : (n : Note) → IsStatusOfCheck status n → TellsAudit left status n old new before after → status ≡ 0 → WritesAudit left old new Sound
  check_sound note.Nothing is told zero = sound_by told.answer (told.its tt) told.told zero
  check_sound note.Usage is told zero = absurd is
  check_sound note.Memory is told zero = cc
  check_sound note.Read is told zero = cc
  check_sound note.Write is told zero = cc
  check_sound (note.Text f) is told zero = absurd is
  check_sound (note.Name f) is told zero = absurd is
  check_sound (note.Sheet f) is told zero = cc

  broken_by : (a : Audit) → IfSome left (λ bytes. IsAuditOf bytes a) → TellsAnswer a status note.Nothing old new before after → status ≡ 11 → (part : ℕ) × WritesAudit left old new (Broken part)
  broken_by Sound its told eleven = let is = told.is_status refl in cc
  broken_by (Broken part) its told eleven = (part, (its, told.written))

  pub check_broken : (n : Note) → IsStatusOfCheck status n → TellsAudit left status n old new before after → status ≡ 11 → (part : ℕ) × WritesAudit left old new (Broken part)
  check_broken note.Nothing is told eleven = broken_by told.answer (told.its tt) told.told eleven
  check_broken note.Usage is told eleven = absurd is
  check_broken note.Memory is told eleven = cc
  check_broken note.Read is told eleven = cc
  check_broken note.Write is told eleven = cc
  check_broken (note.Text f) is told eleven = absurd is
  check_broken (note.Name f) is told eleven = absurd is
  check_broken (note.Sheet f) is told eleven = cc
