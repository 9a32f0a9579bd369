-- Status 8: what is kept does not replay. With every other status it does.
use Rattle.std.proofs.Common.{◌≡◌, ◌≢◌, ℕ, [], List, Option, Some, None, IfSome, IsSomeAnd, inl, inr, refl, subst}
use Rattle.cw_io.specs.Outside.{Appends}
use Rattle.cw_record.specs.declared.record.Record.{Record}
use Rattle.cw_record.specs.declared.record_end.RecordEnd.{RecordEnd}
use Rattle.cw_record.specs.declared.record_end.RecordEnd.TheVariants.{Finished, Fault, Budget, Moves}
use Rattle.cw_record.specs.Records.{IsReplayed}
use Rattle.cw_words.specs.declared.command.Command.{Command}
use Rattle.cw_words.specs.declared.command.Command.TheVariants.{Run, Sim, Load, Keep, Races, Check}
use Rattle.cw_top.specs.declared.outcome.Note.{Note}
use Rattle.cw_top.specs.declared.outcome.Note.TheVariants as note
use Rattle.cw_top.specs.Outcome.{IsStatus, IsStatusOfRun, status_of_end}
use Rattle.cw_top.specs.Runs.{HasSeveralThreads, IsDoneAs, IsDoneBy, IsReady}
use Rattle.cw_top.specs.Written.{IsTextOfCommand, Tells, Writes, text_owed}
use Rattle.cw_top.specs.Audited.{TellsBy}
use Rattle.cw_top.proofs.Judged.{none_of_runs, of_none_kept, run_or_check}
use Rattle.cw_top.proofs.Statuses.{thread_differs}

no_eight : (e : RecordEnd) (status : ℕ) → status ≡ status_of_end e → status ≢ 8
no_eight (Finished m o) status is h = cc
no_eight (Fault x k) status is h = cc
no_eight (Budget x) status is h = cc
no_eight Moves status is h = cc

replays_run : (kept : Option Record) (status : ℕ) (n : Note) → IsStatusOfRun kept status n → status ≢ 8 → IfSome kept IsReplayed
replays_run None status n is other = tt
replays_run (Some r) status note.Nothing (inl (same, is)) other = same
replays_run (Some r) status note.Nothing (inr (differs, is)) other = absurd (other is)
replays_run (Some r) status note.Usage (none, is) other = cc
replays_run (Some r) status note.Memory (none, is) other = cc
replays_run (Some r) status note.Read (none, is) other = cc
replays_run (Some r) status note.Write (same, is) other = same
replays_run (Some r) status (note.Text f) (none, is) other = cc
replays_run (Some r) status (note.Name f) (none, is) other = cc
replays_run (Some r) status (note.Sheet f) is other = absurd is

pub replays : (command : Option Command) (kept : Option Record) (status : ℕ) (n : Note) → IsStatus command kept status n → status ≢ 8 → IfSome kept IsReplayed
replays command kept status n is other = elim (run_or_check command kept status n is) [
  | inl of_run ↦ replays_run kept status n of_run other
  | inr of_check ↦ of_none_kept IsReplayed kept of_check.1
]

-- a run that is kept and does not replay, with nothing noted
eight_run : (kept : Option Record) (status : ℕ) (n : Note) → IsStatusOfRun kept status n → status ≡ 8 → (n ≡ note.Nothing) × IsSomeAnd kept (λ r. IsReplayed r → ⊥)
eight_run None status note.Nothing is e = absurd is
eight_run (Some r) status note.Nothing (inl (same, is)) e = absurd (no_eight r.end status is e)
eight_run (Some r) status note.Nothing (inr (differs, is)) e = (refl, differs)
eight_run kept status note.Usage (none, is) e = cc
eight_run kept status note.Memory (none, is) e = cc
eight_run kept status note.Read (none, is) e = cc
eight_run kept status note.Write (same, is) e = cc
eight_run kept status (note.Text f) (none, is) e = cc
eight_run kept status (note.Name f) (none, is) e = cc
eight_run kept status (note.Sheet f) is e = absurd is

eight : (command : Option Command) (kept : Option Record) (status : ℕ) (n : Note) → IsStatus command kept status n → status ≡ 8 → (n ≡ note.Nothing) × IsSomeAnd kept (λ r. IsReplayed r → ⊥)
eight command kept status n is e = elim (run_or_check command kept status n is) [
  | inl of_run ↦ eight_run kept status n of_run e
  | inr of_check ↦ absurd ((none_of_runs status n of_check.2).3 e)
]

pub disagrees : (command : Option Command) (kept : Option Record) (status : ℕ) (n : Note) → IsStatus command kept status n → status ≡ 8 → IsSomeAnd kept (λ r. IsReplayed r → ⊥)
disagrees command kept status n is e = (eight command kept status n is e).1

nothing_owed : (kept : Option Record) (text : List ℕ) (n : Note) (old new : Option (List ℕ)) → Writes (text_owed kept 8 text) n old new → Appends old new []
nothing_owed None text n old new written = written
nothing_owed (Some r) text n old new written = written

silent_run : (IsText : Record → List ℕ → Type 0) (kept : Option Record) (status : ℕ) (n : Note) (old new : Option (List ℕ)) (before after : ℕ → Type 0) → Tells IsText kept status n old new before after → status ≡ 8 → Appends old new []
silent_run IsText kept status n old new before after told e = nothing_owed kept told.text n old new (subst (λ s. Writes (text_owed kept s told.text) n old new) e told.written)

module _ (kept : Option Record) (status : ℕ) (n : Note) (left old new : Option (List ℕ)) (before after : ℕ → Type 0) where
  of_run : (command : Option Command) → Tells (IsTextOfCommand command left) kept status n old new before after → status ≡ 8 → Appends old new []
  of_run command told e = silent_run (IsTextOfCommand command left) kept status n old new before after told e

  nothing_written : (command : Option Command) → IsStatus command kept status n → TellsBy command left kept status n old new before after → status ≡ 8 → Appends old new []
  nothing_written None is told e = of_run None told e
  nothing_written (Some (Run ws ls w p)) is told e = of_run (Some (Run ws ls w p)) told e
  nothing_written (Some (Sim ws ls w s p)) is told e = of_run (Some (Sim ws ls w s p)) told e
  nothing_written (Some (Load k w)) is told e = of_run (Some (Load k w)) told e
  nothing_written (Some (Keep ws ls w)) is told e = of_run (Some (Keep ws ls w)) told e
  nothing_written (Some (Races ws ls)) is told e = of_run (Some (Races ws ls)) told e
  nothing_written (Some Check) is told e = absurd ((none_of_runs status n is.1).3 e)

  pub silent : (command : Option Command) → IsStatus command kept status n → TellsBy command left kept status n old new before after → status ≡ 8 → (n ≡ note.Nothing) × Appends old new []
  silent command is told e = ((eight command kept status n is e).0, nothing_written command is told e)

by_command : (co : Command) (r : Record) → IsReady co → IsDoneBy co r → (IsReplayed r → ⊥) → HasSeveralThreads (Some co)
by_command (Run ws ls w p) r ready done differs = thread_differs w r ready.0 done differs
by_command (Load tr w) r ready done differs = thread_differs w r ready.0 done differs
by_command (Keep ws ls w) r ready done differs = thread_differs w r ready.0 done differs
by_command Check r ready done differs = absurd done
by_command (Races ws ls) r ready done differs = differs done.replays
by_command (Sim ws ls w s p) r ready done differs = absurd (differs done.replays)

by_kept : (command : Option Command) (kept : Option Record) → IfSome command IsReady → IfSome kept (IsDoneAs command) → IsSomeAnd kept (λ r. IsReplayed r → ⊥) → HasSeveralThreads command
by_kept command None ready done differs = absurd differs
by_kept None (Some r) ready done differs = absurd done
by_kept (Some co) (Some r) ready done differs = by_command co r ready done differs

pub threads : (command : Option Command) (kept : Option Record) (status : ℕ) (n : Note) → IsStatus command kept status n → IfSome command IsReady → IfSome kept (IsDoneAs command) → status ≡ 8 → HasSeveralThreads command
threads command kept status n is ready done e = by_kept command kept ready done (disagrees command kept status n is e)
