-- What is not done by several threads is proved to replay.
use Rattle.std.proofs.Common.{ℕ, List, [], Option, Some, None, append-nil, arith, inl, inr, sym}
use Rattle.std.proofs.lemmas.Bool.{cases_lt}
use Rattle.cw_record.specs.declared.record.Record.{Record}
use Rattle.cw_record.specs.Records.{IsReplayed}
use Rattle.cw_words.specs.declared.command.Command.{Command}
use Rattle.cw_words.specs.declared.command.Command.TheVariants.{Run, Sim, Load, Keep, Races, Check}
use Rattle.cw_top.specs.declared.outcome.Note.{Note}
use Rattle.cw_top.specs.Runs.{HasSeveralThreads, IsDoneBy, IsReady}
use Rattle.cw_top.specs.Written.{IsTextOfCommand, StillTells, Tells, Writes}
use Rattle.cw_audit.specs.declared.findings.Audit.TheVariants.{Sound}
use Rattle.cw_top.specs.declared.outcome.Note.TheVariants as note
use Rattle.cw_top.specs.Audited.{TellsBy}

pub sure : (co : Command) (r : Record) → IsReady co → IsDoneBy co r → (HasSeveralThreads (Some co) → ⊥) → IsReplayed r
sure (Run ws ls w p) r ready done few = elim (cases_lt 1 w) [ inl less ↦ absurd (few less) | inr le ↦ (done.one (omega (arith, ready.0, le))).replays ]
sure (Load tr w) r ready done few = elim (cases_lt 1 w) [ inl less ↦ absurd (few less) | inr le ↦ (done.one (omega (arith, ready.0, le))).replays ]
sure (Keep ws ls w) r ready done few = elim (cases_lt 1 w) [ inl less ↦ absurd (few less) | inr le ↦ (done.one (omega (arith, ready.0, le))).replays ]
sure (Races ws ls) r ready done few = done.replays
sure Check r ready done few = absurd done
sure (Sim ws ls w s p) r ready done few = done.replays

-- where nothing is told, and nothing written
pub nothing_told : (IsText : Record → List ℕ → Type 0) (status : ℕ) (n : Note) (old : Option (List ℕ)) (tells : ℕ → Type 0) → Tells IsText None status n old old tells tells
nothing_told IsText status n None tells = record { text = []; is_text = λ h. tt; written = tt; tells = λ h. (λ s. s, λ k more. more) }
nothing_told IsText status n (Some xs) tells = record { text = []; is_text = λ h. tt; written = sym (append-nil xs); tells = λ h. (λ s. s, λ k more. more) }

as_it_was : (old : Option (List ℕ)) → Writes None note.Memory old old
as_it_was None = tt
as_it_was (Some xs) = sym (append-nil xs)

-- the same of a command for which memory ran out
module _ (left old : Option (List ℕ)) (status : ℕ) (tells : ℕ → Type 0) where
  pub nothing_told_by : (command : Option Command) → TellsBy command left None status note.Memory old old tells tells
  nothing_told_by None = nothing_told (IsTextOfCommand None left) status note.Memory old tells
  nothing_told_by (Some (Run ws ls w p)) = nothing_told (IsTextOfCommand (Some (Run ws ls w p)) left) status note.Memory old tells
  nothing_told_by (Some (Sim ws ls w s p)) = nothing_told (IsTextOfCommand (Some (Sim ws ls w s p)) left) status note.Memory old tells
  nothing_told_by (Some (Load k w)) = nothing_told (IsTextOfCommand (Some (Load k w)) left) status note.Memory old tells
  nothing_told_by (Some (Keep ws ls w)) = nothing_told (IsTextOfCommand (Some (Keep ws ls w)) left) status note.Memory old tells
  nothing_told_by (Some (Races ws ls)) = nothing_told (IsTextOfCommand (Some (Races ws ls)) left) status note.Memory old tells
  nothing_told_by (Some Check) = record {
    answer = Sound;
    its = λ h. absurd h;
    told = record { is_status = λ e. cc; written = as_it_was old; tells = λ h. (λ s. s, λ k more. more) };
  }
