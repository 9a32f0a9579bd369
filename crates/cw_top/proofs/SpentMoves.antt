-- Status 9: the moves of a simulation were made without an end, and the text was written.
use Rattle.std.proofs.Common.{◌≡◌, ◌∙◌, ℕ, Option, Some, None, IfSome, IsSomeAnd, ap, inl, inr, refl, subst, sym}
use Rattle.std.specs.Prelude.{◌↔◌}
use Rattle.cw_record.specs.declared.record.Record.{Record}
use Rattle.cw_record.specs.declared.record_end.RecordEnd.{RecordEnd}
use Rattle.cw_record.specs.declared.record_end.RecordEnd.TheVariants.{Finished, Fault, Budget, Moves}
use Rattle.cw_record.specs.Records.{HasEnded, job_of_record}
use Rattle.cw_words.specs.declared.command.Command.{Command}
use Rattle.cw_words.specs.declared.command.Command.TheVariants.{Run, Sim, Load, Keep, Races, Check}
use Rattle.cw_top.specs.declared.outcome.Note.{Note}
use Rattle.cw_top.specs.declared.outcome.Note.TheVariants as note
use Rattle.cw_top.specs.Outcome.{IsStatus, IsStatusOf, IsStatusOfRun, status_of_end}
use Rattle.cw_top.specs.Runs.{IsDoneAs, IsDoneBy}
use Rattle.cw_top.specs.Spent.{HasSpentMoves}
use Rattle.cw_top.proofs.Judged.{none_of_runs, run_or_check}
use Rattle.cw_sim.proofs.Runs.Unstopped.{left_told}

by_end : (e : RecordEnd) → 9 ≡ status_of_end e → e ≡ Moves
by_end (Finished m o) is = cc
by_end (Fault x k) is = cc
by_end (Budget x) is = cc
by_end Moves is = refl

spent : (c : Command) (r : Record) → IsDoneBy c r → r.end ≡ Moves → HasSpentMoves (Some c) r
spent (Run ws ls w p) r done e = done.moves e
spent (Load tr w) r done e = done.moves e
spent (Keep ws ls w) r done e = done.moves e
spent Check r done e = absurd done
spent (Races ws ls) r done e = subst HasEnded e done.ended
spent (Sim ws ls w s p) r done e = (left_told (job_of_record r) w s r done.moves).0 e

told : (c : Command) (r : Record) → IsDoneBy c r → HasSpentMoves (Some c) r → r.end ≡ Moves
told (Run ws ls w p) r done e = absurd e
told (Load tr w) r done e = absurd e
told (Keep ws ls w) r done e = absurd e
told (Races ws ls) r done e = absurd e
told Check r done e = absurd e
told (Sim ws ls w s p) r done e = (left_told (job_of_record r) w s r done.moves).1 e

-- the moves of a simulation replay, whatever their end is
of_moves : (c : Command) (r : Record) (status : ℕ) → IsDoneBy c r → IsStatusOf r status → HasSpentMoves (Some c) r → status ≡ 9
of_moves c r status done (inl (same, is)) h = is ∙ ap status_of_end (told c r done h)
of_moves (Run ws ls w p) r status done (inr (other, is)) h = absurd h
of_moves (Load tr w) r status done (inr (other, is)) h = absurd h
of_moves (Keep ws ls w) r status done (inr (other, is)) h = absurd h
of_moves (Races ws ls) r status done (inr (other, is)) h = absurd h
of_moves Check r status done (inr (other, is)) h = absurd h
of_moves (Sim ws ls w s p) r status done (inr (other, is)) h = absurd (other done.replays)

to_moves : (c : Command) (r : Record) (status : ℕ) → IsDoneBy c r → IsStatusOf r status → status ≡ 9 → HasSpentMoves (Some c) r
to_moves c r status done (inl (same, is)) nine = spent c r done (by_end r.end (sym nine ∙ is))
to_moves c r status done (inr (other, is)) nine = cc

moves_run : (command : Option Command) (kept : Option Record) (status : ℕ) (n : Note) → IsStatusOfRun kept status n → IfSome kept (IsDoneAs command) → status ≡ 9 ↔ ((n ≡ note.Nothing) × IsSomeAnd kept (HasSpentMoves command))
moves_run command None status note.Nothing is done = absurd is
moves_run None (Some r) status note.Nothing is done = absurd done
moves_run (Some c) (Some r) status note.Nothing is done = (λ nine. (refl, to_moves c r status done is nine), λ h. of_moves c r status done is h.1)
moves_run command kept status note.Usage (none, is) done = (λ nine. cc, λ h. cc)
moves_run command kept status note.Memory (none, is) done = (λ nine. cc, λ h. cc)
moves_run command kept status note.Read (none, is) done = (λ nine. cc, λ h. cc)
moves_run command kept status note.Write (some, is) done = (λ nine. cc, λ h. cc)
moves_run command kept status (note.Text f) (none, is) done = (λ nine. cc, λ h. cc)
moves_run command kept status (note.Name f) (none, is) done = (λ nine. cc, λ h. cc)
moves_run command kept status (note.Sheet f) is done = absurd is

nothing_spent : (command : Option Command) (kept : Option Record) → kept ≡ None → IsSomeAnd kept (HasSpentMoves command) → ⊥
nothing_spent command kept none h = subst (λ (k : Option Record). IsSomeAnd k (HasSpentMoves command)) none h

pub moves : (command : Option Command) (kept : Option Record) (status : ℕ) (n : Note) → IsStatus command kept status n → IfSome kept (IsDoneAs command) → status ≡ 9 ↔ ((n ≡ note.Nothing) × IsSomeAnd kept (HasSpentMoves command))
moves command kept status n is done = elim (run_or_check command kept status n is) [
  | inl of_run ↦ moves_run command kept status n of_run done
  | inr of_check ↦ (λ nine. absurd ((none_of_runs status n of_check.2).4 nine), λ h. absurd (nothing_spent command kept of_check.1 h.1))
]
