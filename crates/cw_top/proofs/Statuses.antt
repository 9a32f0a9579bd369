-- What the statuses say, from the causes of the notes.
use Rattle.std.proofs.Common.{◌≡◌, ◌≢◌, ◌<◌, ◌⊎◌, inl, inr, List, length, ℕ, ℤ, Option, Some, None, IsSomeAnd, IfSome, refl, sym, ◌∙◌, subst, arith}
use Rattle.std.proofs.lemmas.Bool.{cases_lt}
use Rattle.std.proofs.lemmas.Option.{same_Some}
use Rattle.cw_io.specs.declared.schedule.Schedule.{Schedule}
use Rattle.cw_io.specs.Outside.{Appends}
use Rattle.cw_tree.specs.declared.picks.Picks.{Picks}
use Rattle.cw_tree.specs.Walks.{IsNumbered}
use Rattle.cw_serial.specs.declared.ends.SerialEnd.{SerialEnd}
use Rattle.cw_serial.specs.declared.ends.SerialEnd.TheVariants as last
use Rattle.cw_job.specs.Jobs.{TakesWords}
use Rattle.cw_record.specs.declared.record.Record.{Record}
use Rattle.cw_record.specs.declared.record_end.RecordEnd.{RecordEnd}
use Rattle.cw_record.specs.declared.record_end.RecordEnd.TheVariants.{Finished, Fault, Budget, Moves}
use Rattle.cw_record.specs.Records.{HasEnded, IsReplayed}
use Rattle.cw_record.specs.Replay.{SameEnd}
use Rattle.cw_record.proofs.Replay.OneRun.{same_end}
use Rattle.cw_words.specs.declared.command.Command.{Command}
use Rattle.cw_words.specs.declared.command.Command.TheVariants.{Run, Sim, Load, Keep, Races, Check}
use Rattle.cw_top.specs.declared.outcome.Note.{Note}
use Rattle.cw_top.specs.declared.outcome.Note.TheVariants as note
use Rattle.cw_top.specs.Refusals.{AsksFor, IsMisfit, Spells, refusal}
use Rattle.cw_top.specs.Audited.{EndsWell, FindsBroken, TellsBy}
use Rattle.cw_top.proofs.Judged.{check_broken, check_ends, check_read, check_refuses, check_sound, check_unread, check_write, none_of_runs, run_or_check, telling_of_check}
use Rattle.cw_top.proofs.Budgets.{by_end}
use Rattle.cw_top.proofs.Parameters.{fits, spelled_accepted}
use Rattle.cw_top.specs.Outcome.{HasCause, IsCauseOfCheck, IsCauseOfRun, IsCauseOfTelling, IsMisused, IsRefusedWith, IsStatus, IsStatusOf, IsStatusOfRun, IsSurelyMisused, IsSurelyRefused, MayBeMisusedWith, MayEndWith, status_of_end, FailsToRead}
use Rattle.cw_top.specs.Runs.{HasSeveralWorkers, IsDoneAs, IsDoneBy, IsOfMoves, IsOfThreads, IsReady, IsRunOf}
use Rattle.cw_top.specs.Taken.{Accepts, IsRefusedFor, IsRefusedIn, IsUnreadFor}
use Rattle.cw_top.specs.Written.{IsTextBy, IsTextOfCommand, Tells, Writes, WritesEndOfOneMemory, end_of_one_memory, text_owed}

-- words that are no command come to status 2, or memory runs out
of_none : (kept : Option Record) (status : ℕ) (n : Note) → (n ≡ note.Usage) ⊎ (n ≡ note.Memory) → IsStatusOfRun kept status n → (status ≡ 2) ⊎ (status ≡ 1)
of_none kept status n (inl is) h = inl ((subst (λ m. IsStatusOfRun kept status m) is h).1)
of_none kept status n (inr is) h = inr ((subst (λ m. IsStatusOfRun kept status m) is h).1)

not_low : (status : ℕ) → (status ≡ 2) ⊎ (status ≡ 1) → (status ≢ 3) × (status ≢ 4) × (status ≢ 5)
not_low status (inl two) = (λ h. cc, λ h. cc, λ h. cc)
not_low status (inr one) = (λ h. cc, λ h. cc, λ h. cc)

-- running out of memory needs no cause
pub memory_cause : (command : Option Command) (n : Note) (left : Option (List ℕ)) (r w : Type 0) → n ≡ note.Memory → HasCause command n left r w
memory_cause None n left r w is = inr is
memory_cause (Some (Run ws ls wk p)) n left r w is = subst (λ m. IsCauseOfRun 2 ws m left r w) (sym is) tt
memory_cause (Some (Sim ws ls wk sc p)) n left r w is = subst (λ m. IsCauseOfRun 2 ws m left r w) (sym is) tt
memory_cause (Some (Keep ws ls wk)) n left r w is = subst (λ m. IsCauseOfRun 2 ws m left r w) (sym is) tt
memory_cause (Some (Races ws ls)) n left r w is = subst (λ m. IsCauseOfRun 2 ws m left r w) (sym is) tt
memory_cause (Some Check) n left r w is = subst (λ m. IsCauseOfCheck m left r w) (sym is) tt
memory_cause (Some (Load tr wk)) n left r w is = subst (λ m. IsCauseOfTelling m w) (sym is) tt

-- once there is a run, a command ends for the same causes as its telling
run_cause : (l : ℕ) (words : List ℤ) (n : Note) (left : Option (List ℕ)) (r w : Type 0) → IsCauseOfTelling n w → IsCauseOfRun l words n left r w
run_cause l words note.Nothing left r w cause = tt
run_cause l words note.Usage left r w cause = absurd cause
run_cause l words note.Memory left r w cause = tt
run_cause l words note.Read left r w cause = absurd cause
run_cause l words note.Write left r w cause = cause
run_cause l words (note.Text f) left r w cause = absurd cause
run_cause l words (note.Name f) left r w cause = absurd cause
run_cause l words (note.Sheet f) left r w cause = absurd cause

pub telling_cause : (co : Command) (n : Note) (left : Option (List ℕ)) (r w : Type 0) → IsCauseOfTelling n w → HasCause (Some co) n left r w
telling_cause (Run ws ls wk p) n left r w cause = run_cause 2 ws n left r w cause
telling_cause (Sim ws ls wk sc p) n left r w cause = run_cause 2 ws n left r w cause
telling_cause (Load tr wk) n left r w cause = cause
telling_cause (Races ws ls) n left r w cause = run_cause 2 ws n left r w cause
telling_cause Check n left r w cause = telling_of_check n left r w cause
telling_cause (Keep ws ls wk) n left r w cause = run_cause 2 ws n left r w cause

no_end : (e : RecordEnd) (status : ℕ) → status ≡ status_of_end e → (status ≢ 2) × (status ≢ 3) × (status ≢ 4) × (status ≢ 5)
no_end (Finished m o) status is = (λ h. cc, λ h. cc, λ h. cc, λ h. cc)
no_end (Fault x k) status is = (λ h. cc, λ h. cc, λ h. cc, λ h. cc)
no_end (Budget x) status is = (λ h. cc, λ h. cc, λ h. cc, λ h. cc)
no_end Moves status is = (λ h. cc, λ h. cc, λ h. cc, λ h. cc)

-- a status with which nothing is amiss
no_fault : (kept : Option Record) (status : ℕ) → IsStatusOfRun kept status note.Nothing → (status ≢ 2) × (status ≢ 3) × (status ≢ 4) × (status ≢ 5)
no_fault None status h = absurd h
no_fault (Some r) status (inl (same, is)) = no_end r.end status is
no_fault (Some r) status (inr (other, is)) = (λ h. cc, λ h. cc, λ h. cc, λ h. cc)

-- ## Causes

-- a load reads nothing, and nothing of it is refused
load_causes : (kept : Option Record) (status : ℕ) (n : Note) (w : Type 0) → IsStatusOfRun kept status n → IsCauseOfTelling n w → (status ≢ 2) × (status ≢ 3) × (status ≢ 5)
load_causes kept status note.Nothing w is cause = let no = no_fault kept status is in (no.0, no.1, no.3)
load_causes kept status note.Usage w is cause = absurd cause
load_causes kept status note.Memory w (none, is) cause = (λ h. cc, λ h. cc, λ h. cc)
load_causes kept status note.Read w is cause = absurd cause
load_causes kept status note.Write w (some, is) cause = (λ h. cc, λ h. cc, λ h. cc)
load_causes kept status (note.Text f) w is cause = absurd cause
load_causes kept status (note.Name f) w is cause = absurd cause
load_causes kept status (note.Sheet f) w is cause = absurd is

load_writes : (kept : Option Record) (status : ℕ) (n : Note) (w : Type 0) → IsStatusOfRun kept status n → IsCauseOfTelling n w → status ≡ 4 → w
load_writes kept status note.Nothing w is cause h = absurd ((no_fault kept status is).2 h)
load_writes kept status note.Usage w is cause h = absurd cause
load_writes kept status note.Memory w (none, is) cause h = cc
load_writes kept status note.Read w is cause h = absurd cause
load_writes kept status note.Write w is cause h = cause
load_writes kept status (note.Text f) w is cause h = absurd cause
load_writes kept status (note.Name f) w is cause h = absurd cause
load_writes kept status (note.Sheet f) w is cause h = absurd is

usage_of : (l : ℕ) (words : List ℤ) (kept : Option Record) (status : ℕ) (n : Note) (left : Option (List ℕ)) (r w : Type 0) → IsStatusOfRun kept status n → IsCauseOfRun l words n left r w → status ≡ 2 → IfSome left (IsMisfit l words)
usage_of l words kept status note.Nothing left r w is cause h = absurd ((no_fault kept status is).0 h)
usage_of l words kept status note.Usage left r w is cause h = cause
usage_of l words kept status note.Memory left r w (none, is) cause h = cc
usage_of l words kept status note.Read left r w (none, is) cause h = cc
usage_of l words kept status note.Write left r w (some, is) cause h = cc
usage_of l words kept status (note.Text f) left r w (none, is) cause h = cc
usage_of l words kept status (note.Name f) left r w (none, is) cause h = cc
usage_of l words kept status (note.Sheet f) left r w is cause h = absurd is

pub usage : (command : Option Command) (kept : Option Record) (status : ℕ) (n : Note) (left : Option (List ℕ)) (r w : Type 0) → IsStatus command kept status n → HasCause command n left r w → status ≡ 2 → IsMisused command left
usage None kept status n left r w is cause h = tt
usage (Some (Run ws ls wk p)) kept status n left r w is cause h = usage_of 2 ws kept status n left r w is cause h
usage (Some (Sim ws ls wk sc p)) kept status n left r w is cause h = usage_of 2 ws kept status n left r w is cause h
usage (Some (Keep ws ls wk)) kept status n left r w is cause h = usage_of 2 ws kept status n left r w is cause h
usage (Some (Races ws ls)) kept status n left r w is cause h = usage_of 2 ws kept status n left r w is cause h
usage (Some Check) kept status n left r w is cause h = (none_of_runs status n is.1).0 h
usage (Some (Load tr wk)) kept status n left r w is cause h = (load_causes kept status n w is cause).0 h

read_fault_of : (l : ℕ) (words : List ℤ) (kept : Option Record) (status : ℕ) (n : Note) (left : Option (List ℕ)) (r w : Type 0) → IsStatusOfRun kept status n → IsCauseOfRun l words n left r w → status ≡ 3 → r
read_fault_of l words kept status note.Nothing left r w is cause h = absurd ((no_fault kept status is).1 h)
read_fault_of l words kept status note.Usage left r w (none, is) cause h = cc
read_fault_of l words kept status note.Memory left r w (none, is) cause h = cc
read_fault_of l words kept status note.Read left r w is cause h = cause
read_fault_of l words kept status note.Write left r w (some, is) cause h = cc
read_fault_of l words kept status (note.Text f) left r w (none, is) cause h = cc
read_fault_of l words kept status (note.Name f) left r w (none, is) cause h = cc
read_fault_of l words kept status (note.Sheet f) left r w is cause h = absurd is

pub read_fault : (command : Option Command) (kept : Option Record) (status : ℕ) (n : Note) (left : Option (List ℕ)) (r w : Type 0) → IsStatus command kept status n → HasCause command n left r w → status ≡ 3 → r
read_fault None kept status n left r w is cause h = absurd ((not_low status (of_none kept status n cause is)).0 h)
read_fault (Some (Run ws ls wk p)) kept status n left r w is cause h = read_fault_of 2 ws kept status n left r w is cause h
read_fault (Some (Sim ws ls wk sc p)) kept status n left r w is cause h = read_fault_of 2 ws kept status n left r w is cause h
read_fault (Some (Keep ws ls wk)) kept status n left r w is cause h = read_fault_of 2 ws kept status n left r w is cause h
read_fault (Some (Races ws ls)) kept status n left r w is cause h = read_fault_of 2 ws kept status n left r w is cause h
read_fault (Some Check) kept status n left r w is cause h = check_read status n left r w is.1 cause h
read_fault (Some (Load tr wk)) kept status n left r w is cause h = absurd ((load_causes kept status n w is cause).1 h)

write_fault_of : (l : ℕ) (words : List ℤ) (kept : Option Record) (status : ℕ) (n : Note) (left : Option (List ℕ)) (r w : Type 0) → IsStatusOfRun kept status n → IsCauseOfRun l words n left r w → status ≡ 4 → w
write_fault_of l words kept status note.Nothing left r w is cause h = absurd ((no_fault kept status is).2 h)
write_fault_of l words kept status note.Usage left r w (none, is) cause h = cc
write_fault_of l words kept status note.Memory left r w (none, is) cause h = cc
write_fault_of l words kept status note.Read left r w (none, is) cause h = cc
write_fault_of l words kept status note.Write left r w is cause h = cause
write_fault_of l words kept status (note.Text f) left r w (none, is) cause h = cc
write_fault_of l words kept status (note.Name f) left r w (none, is) cause h = cc
write_fault_of l words kept status (note.Sheet f) left r w is cause h = absurd is

pub write_fault : (command : Option Command) (kept : Option Record) (status : ℕ) (n : Note) (left : Option (List ℕ)) (r w : Type 0) → IsStatus command kept status n → HasCause command n left r w → status ≡ 4 → w
write_fault None kept status n left r w is cause h = absurd ((not_low status (of_none kept status n cause is)).1 h)
write_fault (Some (Run ws ls wk p)) kept status n left r w is cause h = write_fault_of 2 ws kept status n left r w is cause h
write_fault (Some (Sim ws ls wk sc p)) kept status n left r w is cause h = write_fault_of 2 ws kept status n left r w is cause h
write_fault (Some (Keep ws ls wk)) kept status n left r w is cause h = write_fault_of 2 ws kept status n left r w is cause h
write_fault (Some (Races ws ls)) kept status n left r w is cause h = write_fault_of 2 ws kept status n left r w is cause h
write_fault (Some Check) kept status n left r w is cause h = check_write status n left r w is.1 cause h
write_fault (Some (Load tr wk)) kept status n left r w is cause h = load_writes kept status n w is cause h

refused_of : (l : ℕ) (words : List ℤ) (kept : Option Record) (status : ℕ) (n : Note) (left : Option (List ℕ)) (r w : Type 0) → IsStatusOfRun kept status n → IsCauseOfRun l words n left r w → status ≡ 5 → IsRefusedIn l n left
refused_of l words kept status note.Nothing left r w is cause h = absurd ((no_fault kept status is).3 h)
refused_of l words kept status note.Usage left r w (none, is) cause h = cc
refused_of l words kept status note.Memory left r w (none, is) cause h = cc
refused_of l words kept status note.Read left r w (none, is) cause h = cc
refused_of l words kept status note.Write left r w (some, is) cause h = cc
refused_of l words kept status (note.Text f) left r w is cause h = cause
refused_of l words kept status (note.Name f) left r w is cause h = cause
refused_of l words kept status (note.Sheet f) left r w is cause h = absurd is

pub refused : (command : Option Command) (kept : Option Record) (status : ℕ) (n : Note) (left : Option (List ℕ)) (r w : Type 0) → IsStatus command kept status n → HasCause command n left r w → status ≡ 5 → IsRefusedFor command n left
refused None kept status n left r w is cause h = absurd ((not_low status (of_none kept status n cause is)).2 h)
refused (Some (Run ws ls wk p)) kept status n left r w is cause h = refused_of 2 ws kept status n left r w is cause h
refused (Some (Sim ws ls wk sc p)) kept status n left r w is cause h = refused_of 2 ws kept status n left r w is cause h
refused (Some (Keep ws ls wk)) kept status n left r w is cause h = refused_of 2 ws kept status n left r w is cause h
refused (Some (Races ws ls)) kept status n left r w is cause h = refused_of 2 ws kept status n left r w is cause h
refused (Some Check) kept status n left r w is cause h = (none_of_runs status n is.1).1 h
refused (Some (Load tr wk)) kept status n left r w is cause h = absurd ((load_causes kept status n w is cause).2 h)

-- statuses that no run has
run_ends : (e : RecordEnd) (status : ℕ) → status ≡ status_of_end e → (status ≢ 10) × (status ≢ 11)
run_ends (Finished m o) status is = (λ h. cc, λ h. cc)
run_ends (Fault x k) status is = (λ h. cc, λ h. cc)
run_ends (Budget x) status is = (λ h. cc, λ h. cc)
run_ends Moves status is = (λ h. cc, λ h. cc)

of_no_run : (kept : Option Record) (status : ℕ) (n : Note) → IsStatusOfRun kept status n → (status ≢ 10) × (status ≢ 11)
of_no_run None status note.Nothing is = absurd is
of_no_run (Some r) status note.Nothing (inl (same, is)) = run_ends r.end status is
of_no_run (Some r) status note.Nothing (inr (other, is)) = (λ h. cc, λ h. cc)
of_no_run kept status note.Usage (none, is) = (λ h. cc, λ h. cc)
of_no_run kept status note.Memory (none, is) = (λ h. cc, λ h. cc)
of_no_run kept status note.Read (none, is) = (λ h. cc, λ h. cc)
of_no_run kept status note.Write (some, is) = (λ h. cc, λ h. cc)
of_no_run kept status (note.Text f) (none, is) = (λ h. cc, λ h. cc)
of_no_run kept status (note.Name f) (none, is) = (λ h. cc, λ h. cc)
of_no_run kept status (note.Sheet f) is = absurd is

pub unreadable : (command : Option Command) (kept : Option Record) (status : ℕ) (n : Note) (left : Option (List ℕ)) (r w : Type 0) → IsStatus command kept status n → HasCause command n left r w → status ≡ 10 → IsUnreadFor command n left
unreadable None kept status n left r w is cause h = absurd ((of_no_run kept status n is).0 h)
unreadable (Some (Run ws ls wk p)) kept status n left r w is cause h = absurd ((of_no_run kept status n is).0 h)
unreadable (Some (Sim ws ls wk sc p)) kept status n left r w is cause h = absurd ((of_no_run kept status n is).0 h)
unreadable (Some (Keep ws ls wk)) kept status n left r w is cause h = absurd ((of_no_run kept status n is).0 h)
unreadable (Some (Races ws ls)) kept status n left r w is cause h = absurd ((of_no_run kept status n is).0 h)
unreadable (Some (Load tr wk)) kept status n left r w is cause h = absurd ((of_no_run kept status n is).0 h)
unreadable (Some Check) kept status n left r w is cause h = check_unread status n left r w is.1 cause h

-- ## Which statuses come

more_than_one : (workers : ℕ) → 0 < workers → (workers ≡ 1 → ⊥) → 1 < workers
more_than_one workers some other = elim (cases_lt 1 workers) [ inl less ↦ less | inr le ↦ absurd (other (omega (arith, some, le))) ]

-- a budget is spent only where there is more than one worker
thread_spends : (workers : ℕ) (r : Record) → 0 < workers → IsOfThreads workers r → (x : ℕ) → r.end ≡ Budget x → 1 < workers
thread_spends workers r some done x e = more_than_one workers some (λ one. subst HasEnded e (done.one one).ended)

move_spends : (workers : ℕ) (s : Schedule) (r : Record) → 0 < workers → IsOfMoves workers s r → (x : ℕ) → r.end ≡ Budget x → 1 < workers
move_spends workers s r some done x e = more_than_one workers some (λ one. (done.one_worker one).unspent x e)

-- and what one thread does replays
pub thread_differs : (workers : ℕ) (r : Record) → 0 < workers → IsOfThreads workers r → (IsReplayed r → ⊥) → 1 < workers
thread_differs workers r some done other = more_than_one workers some (λ one. other (done.one one).replays)

-- the statuses of runs on threads, and of simulations
on_threads : (e : RecordEnd) (status workers : ℕ) → e ≢ Moves → ((x : ℕ) → e ≡ Budget x → 1 < workers) → status ≡ status_of_end e
    → (status ≡ 0) ⊎ (status ≡ 6) ⊎ ((status ≡ 7) × (1 < workers)) ⊎ ((status ≡ 8) × (1 < workers)) ⊎ (status ≡ 1)
on_threads (Finished m o) status workers moves more is = inl is
on_threads (Fault x k) status workers moves more is = inr (inl is)
on_threads (Budget x) status workers moves more is = inr (inr (inl (is, more x refl)))
on_threads Moves status workers moves more is = absurd (moves refl)

came : (e : RecordEnd) (status workers : ℕ) → ((x : ℕ) → e ≡ Budget x → 1 < workers) → status ≡ status_of_end e → (status ≡ 0) ⊎ (status ≡ 6) ⊎ ((status ≡ 7) × (1 < workers)) ⊎ (status ≡ 9) ⊎ (status ≡ 1)
came (Finished m o) status workers more is = inl is
came (Fault x k) status workers more is = inr (inl is)
came (Budget x) status workers more is = inr (inr (inl (is, more x refl)))
came Moves status workers more is = inr (inr (inr (inl is)))

-- the statuses of runs that ended by themselves, or at a fault
alone : (e : RecordEnd) (status : ℕ) → HasEnded e → status ≡ status_of_end e → (status ≡ 0) ⊎ (status ≡ 6) ⊎ (status ≡ 1)
alone (Finished m o) status ended is = inl is
alone (Fault x k) status ended is = inr (inl is)
alone (Budget x) status ended is = absurd ended
alone Moves status ended is = absurd ended

may_end : (co : Command) (x : Record) (status : ℕ) → IsReady co → IsDoneBy co x → IsStatusOf x status → MayEndWith (Some co) status
may_end (Run ws ls w p) x status ready done (inl (same, is)) = on_threads x.end status w done.moves (thread_spends w x ready.0 done) is
may_end (Run ws ls w p) x status ready done (inr (other, is)) = inr (inr (inr (inl (is, thread_differs w x ready.0 done other))))
may_end (Load tr w) x status ready done (inl (same, is)) = on_threads x.end status w done.moves (thread_spends w x ready.0 done) is
may_end (Load tr w) x status ready done (inr (other, is)) = inr (inr (inr (inl (is, thread_differs w x ready.0 done other))))
may_end (Keep ws ls w) x status ready done (inl (same, is)) = on_threads x.end status w done.moves (thread_spends w x ready.0 done) is
may_end (Keep ws ls w) x status ready done (inr (other, is)) = inr (inr (inr (inl (is, thread_differs w x ready.0 done other))))
may_end Check x status ready done is = absurd done
may_end (Races ws ls) x status ready done (inl (same, is)) = alone x.end status done.ended is
may_end (Races ws ls) x status ready done (inr (other, is)) = absurd (other done.replays)
may_end (Sim ws ls w s p) x status ready done (inl (same, is)) = came x.end status w (move_spends w s x ready.0 done) is
may_end (Sim ws ls w s p) x status ready done (inr (other, is)) = absurd (other done.replays)

several_of : (co : Command) (r : Record) → IsReady co → IsDoneBy co r → (x : ℕ) → r.end ≡ Budget x → HasSeveralWorkers (Some co)
several_of (Run ws ls w p) r ready done x e = thread_spends w r ready.0 done x e
several_of (Load tr w) r ready done x e = thread_spends w r ready.0 done x e
several_of (Keep ws ls w) r ready done x e = thread_spends w r ready.0 done x e
several_of Check r ready done x e = absurd done
several_of (Races ws ls) r ready done x e = subst HasEnded e done.ended
several_of (Sim ws ls w s p) r ready done x e = move_spends w s r ready.0 done x e

several_run : (command : Option Command) (kept : Option Record) (status : ℕ) (n : Note) → IsStatusOfRun kept status n → IfSome command IsReady → IfSome kept (IsDoneAs command) → status ≡ 7 → HasSeveralWorkers command
several_run command None status note.Nothing is ready done seven = absurd is
several_run None (Some r) status note.Nothing is ready done seven = absurd done
several_run (Some co) (Some r) status note.Nothing (inl (same, is)) ready done seven = let (x, e) = by_end r.end (sym seven ∙ is) in several_of co r ready done x e
several_run (Some co) (Some r) status note.Nothing (inr (other, is)) ready done seven = absurd (cc (seven, is))
several_run command kept status note.Usage (none, is) ready done seven = absurd (cc (seven, is))
several_run command kept status note.Memory (none, is) ready done seven = absurd (cc (seven, is))
several_run command kept status note.Read (none, is) ready done seven = absurd (cc (seven, is))
several_run command kept status note.Write (some, is) ready done seven = absurd (cc (seven, is))
several_run command kept status (note.Text f) (none, is) ready done seven = absurd (cc (seven, is))
several_run command kept status (note.Name f) (none, is) ready done seven = absurd (cc (seven, is))
several_run command kept status (note.Sheet f) is ready done seven = absurd is

pub several : (command : Option Command) (kept : Option Record) (status : ℕ) (n : Note) → IsStatus command kept status n → IfSome command IsReady → IfSome kept (IsDoneAs command) → status ≡ 7 → HasSeveralWorkers command
several command kept status n is ready done seven = elim (run_or_check command kept status n is) [
  | inl of_run ↦ several_run command kept status n of_run ready done seven
  | inr of_check ↦ absurd ((none_of_runs status n of_check.2).2 seven)
]

may_want : (co : Command) (status : ℕ) → status ≡ 1 → MayEndWith (Some co) status
may_want (Run ws ls w p) status is = inr (inr (inr (inr is)))
may_want (Load tr w) status is = inr (inr (inr (inr is)))
may_want (Keep ws ls w) status is = inr (inr (inr (inr is)))
may_want Check status is = inr (inr (inr is))
may_want (Races ws ls) status is = inr (inr is)
may_want (Sim ws ls w s p) status is = inr (inr (inr (inr is)))

-- running out of memory may end any command
pub memory_ends : (command : Option Command) (status : ℕ) → status ≡ 1 → MayEndWith command status
memory_ends None status is = inr is
memory_ends (Some co) status is = may_want co status is

-- bytes that are not refused are refused for no reason
not_refused : (l : ℕ) (left : Option (List ℕ)) (P : List ℕ → Type 0) (n : Note) → IsSomeAnd left (λ bytes. (refusal l bytes ≡ None) × P bytes) → IsRefusedIn l n left → ⊥
not_refused l None P n h why = h
not_refused l (Some bytes) P n (h, p) why = cc

-- words that fit are no misfit
fitting : (l : ℕ) (left : Option (List ℕ)) (words : List ℤ) → IsSomeAnd left (λ bytes. (refusal l bytes ≡ None) × AsksFor l bytes (length words)) → IfSome left (IsMisfit l words) → ⊥
fitting l None words h misfit = h
fitting l (Some bytes) words h misfit = misfit.1 h.1

-- where there is a run the words fit
run_fits : (l : ℕ) (words : List ℤ) (left : Option (List ℕ)) (x : Record) → IfSome left (λ bytes. Spells l bytes x.program) → x.words ≡ words → TakesWords x.program (length x.words) → IsSomeAnd left (IsMisfit l words) → ⊥
run_fits l words left x spelled is takes = fits l left words x.program spelled (subst (λ (vs : List ℤ). TakesWords x.program (length vs)) is takes)

misused_of : (l : ℕ) (words : List ℤ) (kept : Option Record) (status : ℕ) (n : Note) (left : Option (List ℕ)) (r w : Type 0) → IsStatusOfRun kept status n → IsCauseOfRun l words n left r w → IsSomeAnd left (IsMisfit l words) → (r → ⊥)
    → ((x : Record) → kept ≡ Some x → ⊥) → (status ≡ 2) ⊎ (status ≡ 1)
misused_of l words None status note.Nothing left r w is cause misfit no_r no_run = absurd is
misused_of l words (Some x) status note.Nothing left r w is cause misfit no_r no_run = absurd (no_run x refl)
misused_of l words kept status note.Usage left r w (none, is) cause misfit no_r no_run = inl is
misused_of l words kept status note.Memory left r w (none, is) cause misfit no_r no_run = inr is
misused_of l words kept status note.Read left r w is cause misfit no_r no_run = absurd (no_r cause)
misused_of l words None status note.Write left r w (some, is) cause misfit no_r no_run = absurd some
misused_of l words (Some x) status note.Write left r w is cause misfit no_r no_run = absurd (no_run x refl)
misused_of l words kept status (note.Text f) left r w is cause misfit no_r no_run = absurd (not_refused l left (λ bytes. AsksFor l bytes (length words) → ⊥) (note.Text f) misfit cause)
misused_of l words kept status (note.Name f) left r w is cause misfit no_r no_run = absurd (not_refused l left (λ bytes. AsksFor l bytes (length words) → ⊥) (note.Name f) misfit cause)
misused_of l words kept status (note.Sheet f) left r w is cause misfit no_r no_run = absurd is

kept_run : (command : Option Command) (kept : Option Record) (left : Option (List ℕ)) → IfSome kept (IsRunOf command left) → (x : Record) → kept ≡ Some x → IsRunOf command left x
kept_run command kept left run x is = subst (λ (k : Option Record). IfSome k (IsRunOf command left)) is run

pub misused : (command : Option Command) (kept : Option Record) (status : ℕ) (n : Note) (left : Option (List ℕ)) (r w : Type 0) → IsStatus command kept status n → HasCause command n left r w → IfSome kept (IsRunOf command left) → IsSurelyMisused command left → (r → ⊥) → MayBeMisusedWith command status
misused None kept status n left r w is cause run misfit no_r = of_none kept status n cause is
misused (Some (Run ws ls wk p)) kept status n left r w is cause run misfit no_r =
    misused_of 2 ws kept status n left r w is cause misfit no_r (λ x e. let by = kept_run (Some (Run ws ls wk p)) kept left run x e in run_fits 2 ws left x by.program by.words by.takes misfit)
misused (Some (Sim ws ls wk sc p)) kept status n left r w is cause run misfit no_r =
    misused_of 2 ws kept status n left r w is cause misfit no_r (λ x e. let by = kept_run (Some (Sim ws ls wk sc p)) kept left run x e in run_fits 2 ws left x by.program by.words by.takes misfit)
misused (Some (Keep ws ls wk)) kept status n left r w is cause run misfit no_r =
    misused_of 2 ws kept status n left r w is cause misfit no_r (λ x e. let by = kept_run (Some (Keep ws ls wk)) kept left run x e in run_fits 2 ws left x by.program by.words by.takes misfit)
misused (Some (Races ws ls)) kept status n left r w is cause run misfit no_r =
    misused_of 2 ws kept status n left r w is cause misfit no_r (λ x e. let by = kept_run (Some (Races ws ls)) kept left run x e in run_fits 2 ws left x by.program by.words by.takes misfit)
misused (Some Check) kept status n left r w is cause run misfit no_r = absurd misfit
misused (Some (Load tr wk)) kept status n left r w is cause run misfit no_r = absurd misfit

-- a source that has a run is not refused
run_accepted : (l : ℕ) (left : Option (List ℕ)) (x : Record) (fault : Note) → IfSome left (λ bytes. Spells l bytes x.program) → IsSomeAnd left (λ bytes. refusal l bytes ≡ Some fault) → ⊥
run_accepted l None x fault spelled is = is
run_accepted l (Some bytes) x fault spelled is = let none = spelled_accepted l bytes x.program spelled in cc

same_fault : (l : ℕ) (left : Option (List ℕ)) (n fault : Note) → IsSomeAnd left (λ bytes. refusal l bytes ≡ Some fault) → IsRefusedIn l n left → n ≡ fault
same_fault l None n fault is why = absurd is
same_fault l (Some bytes) n fault is why = same_Some n fault (sym why ∙ is)

no_misfit : (l : ℕ) (left : Option (List ℕ)) (words : List ℤ) (fault : Note) → IsSomeAnd left (λ bytes. refusal l bytes ≡ Some fault) → IfSome left (IsMisfit l words) → ⊥
no_misfit l None words fault is misfit = is
no_misfit l (Some bytes) words fault is misfit = let none = misfit.0 in cc

refuses_of : (l : ℕ) (words : List ℤ) (kept : Option Record) (status : ℕ) (n : Note) (left : Option (List ℕ)) (r w : Type 0) → IsStatusOfRun kept status n → IsCauseOfRun l words n left r w → (fault : Note) → IsSomeAnd left (λ bytes. refusal l bytes ≡ Some fault) → (r → ⊥)
    → ((x : Record) → kept ≡ Some x → ⊥) → IsRefusedWith None fault status n
refuses_of l words None status note.Nothing left r w is cause fault why no_r no_run = absurd is
refuses_of l words (Some x) status note.Nothing left r w is cause fault why no_r no_run = absurd (no_run x refl)
refuses_of l words kept status note.Usage left r w is cause fault why no_r no_run = absurd (no_misfit l left words fault why cause)
refuses_of l words kept status note.Memory left r w (none, is) cause fault why no_r no_run = inr is
refuses_of l words kept status note.Read left r w is cause fault why no_r no_run = absurd (no_r cause)
refuses_of l words None status note.Write left r w (some, is) cause fault why no_r no_run = absurd some
refuses_of l words (Some x) status note.Write left r w is cause fault why no_r no_run = absurd (no_run x refl)
refuses_of l words kept status (note.Text f) left r w (none, is) cause fault why no_r no_run = inl (is, same_fault l left (note.Text f) fault why cause)
refuses_of l words kept status (note.Name f) left r w (none, is) cause fault why no_r no_run = inl (is, same_fault l left (note.Name f) fault why cause)
refuses_of l words kept status (note.Sheet f) left r w is cause fault why no_r no_run = absurd is

pub refuses : (command : Option Command) (kept : Option Record) (status : ℕ) (n : Note) (left old new : Option (List ℕ)) (r w : Type 0) (before after : ℕ → Type 0) → IsStatus command kept status n → HasCause command n left r w → IfSome kept (IsRunOf command left) → TellsBy command left kept status n old new before after → (fault : Note) → IsSurelyRefused command left fault → (r → ⊥) → IsRefusedWith command fault status n
refuses None kept status n left old new r w before after is cause run told fault why no_r = absurd why
refuses (Some (Run ws ls wk p)) kept status n left old new r w before after is cause run told fault why no_r =
    refuses_of 2 ws kept status n left r w is cause fault why no_r (λ x e. let by = kept_run (Some (Run ws ls wk p)) kept left run x e in run_accepted 2 left x fault by.program why)
refuses (Some (Sim ws ls wk sc p)) kept status n left old new r w before after is cause run told fault why no_r =
    refuses_of 2 ws kept status n left r w is cause fault why no_r (λ x e. let by = kept_run (Some (Sim ws ls wk sc p)) kept left run x e in run_accepted 2 left x fault by.program why)
refuses (Some (Keep ws ls wk)) kept status n left old new r w before after is cause run told fault why no_r =
    refuses_of 2 ws kept status n left r w is cause fault why no_r (λ x e. let by = kept_run (Some (Keep ws ls wk)) kept left run x e in run_accepted 2 left x fault by.program why)
refuses (Some (Races ws ls)) kept status n left old new r w before after is cause run told fault why no_r =
    refuses_of 2 ws kept status n left r w is cause fault why no_r (λ x e. let by = kept_run (Some (Races ws ls)) kept left run x e in run_accepted 2 left x fault by.program why)
refuses (Some Check) kept status n left old new r w before after is cause run told fault why no_r = check_refuses status left old new before after n r w is.1 cause told fault why no_r
refuses (Some (Load tr wk)) kept status n left old new r w before after is cause run told fault why no_r = absurd why

complete_of : (co : Command) (l : ℕ) (words : List ℤ) (kept : Option Record) (status : ℕ) (n : Note) (left : Option (List ℕ)) (r w : Type 0) → IsStatusOfRun kept status n → IsCauseOfRun l words n left r w → IsReady co → IfSome kept (IsDoneBy co)
    → IsSomeAnd left (λ bytes. (refusal l bytes ≡ None) × AsksFor l bytes (length words)) → (r → ⊥) → (w → ⊥) → MayEndWith (Some co) status
complete_of co l words None status note.Nothing left r w is cause ready done accepted no_r no_w = absurd is
complete_of co l words (Some x) status note.Nothing left r w is cause ready done accepted no_r no_w = may_end co x status ready done is
complete_of co l words kept status note.Usage left r w is cause ready done accepted no_r no_w = absurd (fitting l left words accepted cause)
complete_of co l words kept status note.Memory left r w (none, is) cause ready done accepted no_r no_w = may_want co status is
complete_of co l words kept status note.Read left r w is cause ready done accepted no_r no_w = absurd (no_r cause)
complete_of co l words kept status note.Write left r w is cause ready done accepted no_r no_w = absurd (no_w cause)
complete_of co l words kept status (note.Text f) left r w is cause ready done accepted no_r no_w = absurd (not_refused l left (λ bytes. AsksFor l bytes (length words)) (note.Text f) accepted cause)
complete_of co l words kept status (note.Name f) left r w is cause ready done accepted no_r no_w = absurd (not_refused l left (λ bytes. AsksFor l bytes (length words)) (note.Name f) accepted cause)
complete_of co l words kept status (note.Sheet f) left r w is cause ready done accepted no_r no_w = absurd is

load_complete : (co : Command) (kept : Option Record) (status : ℕ) (n : Note) (w : Type 0) → IsStatusOfRun kept status n → IsCauseOfTelling n w → IsReady co → IfSome kept (IsDoneBy co) → (w → ⊥) → MayEndWith (Some co) status
load_complete co None status note.Nothing w is cause ready done no_w = absurd is
load_complete co (Some x) status note.Nothing w is cause ready done no_w = may_end co x status ready done is
load_complete co kept status note.Usage w is cause ready done no_w = absurd cause
load_complete co kept status note.Memory w (none, is) cause ready done no_w = may_want co status is
load_complete co kept status note.Read w is cause ready done no_w = absurd cause
load_complete co kept status note.Write w is cause ready done no_w = absurd (no_w cause)
load_complete co kept status (note.Text f) w is cause ready done no_w = absurd cause
load_complete co kept status (note.Name f) w is cause ready done no_w = absurd cause
load_complete co kept status (note.Sheet f) w is cause ready done no_w = absurd is

pub complete : (command : Option Command) (kept : Option Record) (status : ℕ) (n : Note) (left : Option (List ℕ)) (r w : Type 0) → IsStatus command kept status n → HasCause command n left r w → IfSome command IsReady → IfSome kept (IsDoneAs command) → Accepts command left → (FailsToRead command r → ⊥) → (w → ⊥) → MayEndWith command status
complete None kept status n left r w is cause ready done accepted no_r no_w = of_none kept status n cause is
complete (Some (Run ws ls wk p)) kept status n left r w is cause ready done accepted no_r no_w = complete_of (Run ws ls wk p) 2 ws kept status n left r w is cause ready done accepted no_r no_w
complete (Some (Sim ws ls wk sc p)) kept status n left r w is cause ready done accepted no_r no_w = complete_of (Sim ws ls wk sc p) 2 ws kept status n left r w is cause ready done accepted no_r no_w
complete (Some (Keep ws ls wk)) kept status n left r w is cause ready done accepted no_r no_w = complete_of (Keep ws ls wk) 2 ws kept status n left r w is cause ready done accepted no_r no_w
complete (Some (Races ws ls)) kept status n left r w is cause ready done accepted no_r no_w = complete_of (Races ws ls) 2 ws kept status n left r w is cause ready done accepted no_r no_w
complete (Some Check) kept status n left r w is cause ready done accepted no_r no_w = check_ends status n left r w is.1 cause no_r no_w
complete (Some (Load tr wk)) kept status n left r w is cause ready done accepted no_r no_w = load_complete (Load tr wk) kept status n w is cause ready done no_w

-- where a run's status is 0 the machine finished, and the run with the same memory and outputs
pub finished_at : (e : RecordEnd) (picks : Picks) (s : SerialEnd) → 0 ≡ status_of_end e → SameEnd e picks s → (memory outputs : List ℤ) × (s ≡ last.Finished memory outputs) × (e ≡ Finished memory outputs)
finished_at (Finished m o) picks s is same = (m, o, same, refl)
finished_at (Fault x k) picks s is same = cc
finished_at (Budget x) picks s is same = cc
finished_at Moves picks s is same = cc

of_replay : (co : Command) (left : Option (List ℕ)) (r : Record) (text : List ℕ) (old new : Option (List ℕ)) → 0 ≡ status_of_end r.end → IsNumbered r.tree → IsReplayed r → IsTextBy co left r text → Appends old new text → WritesEndOfOneMemory (Some co) left r old new
of_replay co left r text old new is tree replays told written =
    let (memory, outputs, finishes, ends) = finished_at r.end r.order (end_of_one_memory r) is (same_end r tree.rooted tree.root replays) in
    record {
      memory = memory;
      outputs = outputs;
      finishes = finishes;
      text = text;
      is_text = subst (λ (e : RecordEnd). IsTextBy co left (record r { end = e }) text) ends told;
      written = written;
    }

-- with status 0 the whole text was written, and it is one of the run
pub written_at : (IsText : Record → List ℕ → Type 0) (r : Record) (status : ℕ) (old new : Option (List ℕ)) (before after : ℕ → Type 0) (told : Tells IsText (Some r) status note.Nothing old new before after) → status ≡ 0 → IsText r told.text × Appends old new told.text
written_at IsText r status old new before after told zero =
    (told.is_text (λ e. cc), subst (λ s. Writes (text_owed (Some r) s told.text) note.Nothing old new) zero told.written)

finished_run : (command : Option Command) (kept : Option Record) (status : ℕ) (n : Note) (left old new : Option (List ℕ)) (before after : ℕ → Type 0) → IsStatusOfRun kept status n → IfSome kept (IsRunOf command left) → Tells (IsTextOfCommand command left) kept status n old new before after → status ≡ 0
    → IsSomeAnd kept (λ r. WritesEndOfOneMemory command left r old new)
finished_run command None status note.Nothing left old new before after is run told zero = absurd is
finished_run None (Some r) status note.Nothing left old new before after is run told zero = absurd run
finished_run (Some co) (Some r) status note.Nothing left old new before after (inl (same, is)) run told zero =
    let (is_text, written) = written_at (IsTextOfCommand (Some co) left) r status old new before after told zero in
    of_replay co left r told.text old new (sym zero ∙ is) run.tree same is_text written
finished_run (Some co) (Some r) status note.Nothing left old new before after (inr (other, is)) run told zero = cc
finished_run command kept status note.Usage left old new before after (none, is) run told zero = cc
finished_run command kept status note.Memory left old new before after (none, is) run told zero = cc
finished_run command kept status note.Read left old new before after (none, is) run told zero = cc
finished_run command kept status note.Write left old new before after (some, is) run told zero = cc
finished_run command kept status (note.Text f) left old new before after (none, is) run told zero = cc
finished_run command kept status (note.Name f) left old new before after (none, is) run told zero = cc
finished_run command kept status (note.Sheet f) left old new before after is run told zero = absurd is

pub finished : (command : Option Command) (kept : Option Record) (status : ℕ) (n : Note) (left old new : Option (List ℕ)) (before after : ℕ → Type 0) → IsStatus command kept status n → IfSome kept (IsRunOf command left) → TellsBy command left kept status n old new before after → status ≡ 0
    → EndsWell command left kept old new
finished None kept status n left old new before after is run told zero = finished_run None kept status n left old new before after is run told zero
finished (Some (Run ws ls wk p)) kept status n left old new before after is run told zero = finished_run (Some (Run ws ls wk p)) kept status n left old new before after is run told zero
finished (Some (Sim ws ls wk sc p)) kept status n left old new before after is run told zero = finished_run (Some (Sim ws ls wk sc p)) kept status n left old new before after is run told zero
finished (Some (Load tr wk)) kept status n left old new before after is run told zero = finished_run (Some (Load tr wk)) kept status n left old new before after is run told zero
finished (Some (Keep ws ls wk)) kept status n left old new before after is run told zero = finished_run (Some (Keep ws ls wk)) kept status n left old new before after is run told zero
finished (Some (Races ws ls)) kept status n left old new before after is run told zero = finished_run (Some (Races ws ls)) kept status n left old new before after is run told zero
finished (Some Check) kept status n left old new before after is run told zero = check_sound status left old new before after n is.1 told zero

pub broken : (command : Option Command) (kept : Option Record) (status : ℕ) (n : Note) (left old new : Option (List ℕ)) (before after : ℕ → Type 0) → IsStatus command kept status n → TellsBy command left kept status n old new before after → status ≡ 11 → FindsBroken command left old new
broken None kept status n left old new before after is told eleven = (of_no_run kept status n is).1 eleven
broken (Some (Run ws ls wk p)) kept status n left old new before after is told eleven = (of_no_run kept status n is).1 eleven
broken (Some (Sim ws ls wk sc p)) kept status n left old new before after is told eleven = (of_no_run kept status n is).1 eleven
broken (Some (Load tr wk)) kept status n left old new before after is told eleven = (of_no_run kept status n is).1 eleven
broken (Some (Keep ws ls wk)) kept status n left old new before after is told eleven = (of_no_run kept status n is).1 eleven
broken (Some (Races ws ls)) kept status n left old new before after is told eleven = (of_no_run kept status n is).1 eleven
broken (Some Check) kept status n left old new before after is told eleven = check_broken status left old new before after n is.1 told eleven
