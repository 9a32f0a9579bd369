-- What a status says, and which statuses may come, given the note, the run that is kept, the command and the source.
use Rattle.std.specs.Prelude.{◌≡◌, ◌<◌, ◌⊎◌, ℕ, ℤ, List, Option, Some, None, IfSome, IsSomeAnd}
use Rattle.cw_record.specs.declared.record.Record.{Record}
use Rattle.cw_record.specs.declared.record_end.RecordEnd.{RecordEnd}
use Rattle.cw_record.specs.declared.record_end.RecordEnd.TheVariants.{Finished, Fault, Budget, Moves}
use Rattle.cw_record.specs.Records.{IsReplayed}
use Rattle.cw_words.specs.declared.command.Command.{Command}
use Rattle.cw_words.specs.declared.command.Command.TheVariants.{Run, Sim, Load, Keep, Races, Check}
use Rattle.cw_words.specs.Words.{words_of}
use Rattle.cw_top.specs.declared.outcome.Note.{Note}
use Rattle.cw_top.specs.declared.outcome.Note.TheVariants as note
use Rattle.cw_top.specs.Refusals.{IsMisfit, newest_language, refusal, sheet_refusal}
use Rattle.cw_top.specs.Taken.{IsRefusedIn, IsUnreadFor}

-- ## The status, the note and the run

abbrev pub status_of_end : RecordEnd → ℕ
status_of_end (Finished memory outputs) = 0
status_of_end (Fault strand kind) = 6
status_of_end (Budget strand) = 7
status_of_end Moves = 9

-- A run that replays has the status of its end. One that does not has status 8.
abbrev pub IsStatusOf : Record → ℕ → Type 0
IsStatusOf r status = (IsReplayed r × (status ≡ status_of_end r.end)) ⊎ ((IsReplayed r → ⊥) × (status ≡ 8))

-- Of a command that runs a program: if the note is `Nothing`, a run is kept and the status is its own. If a write fails, the run is kept,
-- too, and it replays. With any other note no run is kept.
abbrev pub IsStatusOfRun : Option Record → ℕ → Note → Type 0
IsStatusOfRun kept status note.Nothing = IsSomeAnd kept (λ r. IsStatusOf r status)
IsStatusOfRun kept status note.Usage = (kept ≡ None) × (status ≡ 2)
IsStatusOfRun kept status note.Memory = (kept ≡ None) × (status ≡ 1)
IsStatusOfRun kept status note.Read = (kept ≡ None) × (status ≡ 3)
IsStatusOfRun kept status note.Write = IsSomeAnd kept IsReplayed × (status ≡ 4)
IsStatusOfRun kept status (note.Text f) = (kept ≡ None) × (status ≡ 5)
IsStatusOfRun kept status (note.Name f) = (kept ≡ None) × (status ≡ 5)
IsStatusOfRun kept status (note.Sheet f) = ⊥

-- Of a check: the sheet is sound or broken, or it was not judged.
abbrev pub IsStatusOfCheck : ℕ → Note → Type 0
IsStatusOfCheck status note.Nothing = (status ≡ 0) ⊎ (status ≡ 11)
IsStatusOfCheck status note.Memory = status ≡ 1
IsStatusOfCheck status note.Read = status ≡ 3
IsStatusOfCheck status note.Write = status ≡ 4
IsStatusOfCheck status (note.Sheet f) = status ≡ 10
IsStatusOfCheck status n = ⊥

-- A check keeps no run.
abbrev pub IsStatus : Option Command → Option Record → ℕ → Note → Type 0
IsStatus (Some Check) kept status n = (kept ≡ None) × IsStatusOfCheck status n
IsStatus command kept status n = IsStatusOfRun kept status n

-- ## The statuses that may come, and their causes

-- Why a run of these words, of a source in this language at the newest, ends with this note. Each fault has its cause;
-- running out of memory needs none.
abbrev pub IsCauseOfRun : (language : ℕ) → List ℤ → Note → (left : Option (List ℕ)) (read_failed write_failed : Type 0) → Type 0
IsCauseOfRun language words note.Nothing left read_failed write_failed = Unit {0}
IsCauseOfRun language words note.Usage left read_failed write_failed = IfSome left (IsMisfit language words)
IsCauseOfRun language words note.Memory left read_failed write_failed = Unit {0}
IsCauseOfRun language words note.Read left read_failed write_failed = read_failed
IsCauseOfRun language words note.Write left read_failed write_failed = write_failed
IsCauseOfRun language words (note.Text f) left read_failed write_failed = IsRefusedIn language (note.Text f) left
IsCauseOfRun language words (note.Name f) left read_failed write_failed = IsRefusedIn language (note.Name f) left
IsCauseOfRun language words (note.Sheet f) left read_failed write_failed = ⊥

-- why a check ends with this note
abbrev pub IsCauseOfCheck : Note → (left : Option (List ℕ)) (read_failed write_failed : Type 0) → Type 0
IsCauseOfCheck note.Nothing left read_failed write_failed = Unit {0}
IsCauseOfCheck note.Memory left read_failed write_failed = Unit {0}
IsCauseOfCheck note.Read left read_failed write_failed = read_failed
IsCauseOfCheck note.Write left read_failed write_failed = write_failed
IsCauseOfCheck (note.Sheet f) left read_failed write_failed = IsUnreadFor (Some Check) (note.Sheet f) left
IsCauseOfCheck n left read_failed write_failed = ⊥

-- Why there is this note once there is a run: a write failed, or memory ran out, which needs no cause.
abbrev pub IsCauseOfTelling : Note → (write_failed : Type 0) → Type 0
IsCauseOfTelling note.Nothing write_failed = Unit {0}
IsCauseOfTelling note.Memory write_failed = Unit {0}
IsCauseOfTelling note.Write write_failed = write_failed
IsCauseOfTelling n write_failed = ⊥

-- why a command ends with this note
abbrev pub HasCause : Option Command → Note → (left : Option (List ℕ)) (read_failed write_failed : Type 0) → Type 0
HasCause None n left read_failed write_failed = (n ≡ note.Usage) ⊎ (n ≡ note.Memory)
HasCause (Some (Load transfers workers)) n left read_failed write_failed = IsCauseOfTelling n write_failed
HasCause (Some Check) n left read_failed write_failed = IsCauseOfCheck n left read_failed write_failed
HasCause (Some c) n left read_failed write_failed = IsCauseOfRun (newest_language c) (words_of c) n left read_failed write_failed

-- The words are of no use: either they are no command, whatever the source is; or the source is not refused and asks for another
-- number of words. A load and a check have no words.
abbrev pub IsMisused : Option Command → (left : Option (List ℕ)) → Type 0
IsMisused None left = Unit {0}
IsMisused (Some (Load transfers workers)) left = ⊥
IsMisused (Some Check) left = ⊥
IsMisused (Some c) left = IfSome left (IsMisfit (newest_language c) (words_of c))

-- The source's bytes are known, and the command is of no use for them.
abbrev pub IsSurelyMisused : Option Command → (left : Option (List ℕ)) → Type 0
IsSurelyMisused None left = Unit {0}
IsSurelyMisused (Some (Load transfers workers)) left = ⊥
IsSurelyMisused (Some Check) left = ⊥
IsSurelyMisused (Some c) left = IsSomeAnd left (IsMisfit (newest_language c) (words_of c))

-- A read of the command failed. Words that are no command, and a load, read nothing.
abbrev pub FailsToRead : Option Command → (read_failed : Type 0) → Type 0
FailsToRead None read_failed = ⊥
FailsToRead (Some (Load transfers workers)) read_failed = ⊥
FailsToRead (Some c) read_failed = read_failed

-- the statuses for words of no use, if no read fails
abbrev pub MayBeMisusedWith : Option Command → ℕ → Type 0
MayBeMisusedWith command status = (status ≡ 2) ⊎ (status ≡ 1)

-- The source's bytes are known, and the command's source is refused for this reason.
abbrev pub IsSurelyRefused : Option Command → (left : Option (List ℕ)) → Note → Type 0
IsSurelyRefused None left fault = ⊥
IsSurelyRefused (Some (Load transfers workers)) left fault = ⊥
IsSurelyRefused (Some Check) left fault = IsSomeAnd left (λ bytes. sheet_refusal bytes ≡ Some fault)
IsSurelyRefused (Some c) left fault = IsSomeAnd left (λ bytes. refusal (newest_language c) bytes ≡ Some fault)

-- the status of a command whose source is refused: 5 for a program, 10 for a sheet
abbrev pub refusal_status : Option Command → ℕ
refusal_status (Some Check) = 10
refusal_status command = 5

-- the outcome for a source that is refused for this reason, if no read fails
abbrev pub IsRefusedWith : Option Command → (fault : Note) → ℕ → Note → Type 0
IsRefusedWith command fault status n = ((status ≡ refusal_status command) × (n ≡ fault)) ⊎ (status ≡ 1)

-- the statuses that a run by `workers` threads may have
abbrev pub MayEndOnThreads : (workers status : ℕ) → Type 0
MayEndOnThreads workers status = (status ≡ 0) ⊎ (status ≡ 6) ⊎ ((status ≡ 7) × (1 < workers)) ⊎ ((status ≡ 8) × (1 < workers)) ⊎ (status ≡ 1)

-- The statuses that a command may have if it accepts the source and neither a read nor a write fails. Status 7 needs more than one
-- worker, and status 8 more than one thread.
abbrev pub MayEndWith : Option Command → ℕ → Type 0
MayEndWith None status = (status ≡ 2) ⊎ (status ≡ 1)
MayEndWith (Some (Run words limits workers report)) status = MayEndOnThreads workers status
MayEndWith (Some (Load transfers workers)) status = MayEndOnThreads workers status
MayEndWith (Some (Keep words limits workers)) status = MayEndOnThreads workers status
MayEndWith (Some (Races words limits)) status = (status ≡ 0) ⊎ (status ≡ 6) ⊎ (status ≡ 1)
MayEndWith (Some Check) status = (status ≡ 0) ⊎ (status ≡ 10) ⊎ (status ≡ 11) ⊎ (status ≡ 1)
MayEndWith (Some (Sim words limits workers schedule report)) status = (status ≡ 0) ⊎ (status ≡ 6) ⊎ ((status ≡ 7) × (1 < workers)) ⊎ (status ≡ 9) ⊎ (status ≡ 1)
