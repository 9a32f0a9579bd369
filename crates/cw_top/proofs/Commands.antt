-- What holds of a command that runs a program, for any command.
use Rattle.std.proofs.Common.{◌≡◌, ℕ, List, Option, Some, None, refl}
use Rattle.cw_record.specs.declared.record.Record.{Record}
use Rattle.cw_words.specs.declared.command.Command.{Command}
use Rattle.cw_words.specs.declared.command.Command.TheVariants.{Run, Sim, Load, Keep, Races, Check}
use Rattle.cw_top.specs.declared.outcome.Note.{Note}
use Rattle.cw_top.specs.Audited.{TellsBy}
use Rattle.cw_top.specs.Outcome.{IsStatus, IsStatusOfRun}
use Rattle.cw_top.specs.Runs.{RunsProgram}
use Rattle.cw_top.specs.Taken.{HasAnswered}
use Rattle.cw_top.specs.Written.{IsTextBy, Tells}

pub runs_another : (co : Command) → (co ≡ Check → ⊥) → RunsProgram co
runs_another (Run ws ls wk p) other = tt
runs_another (Sim ws ls wk sc p) other = tt
runs_another (Load tr wk) other = tt
runs_another (Keep ws ls wk) other = tt
runs_another (Races ws ls) other = tt
runs_another Check other = other refl

module _ (kept : Option Record) (status : ℕ) (n : Note) where
  pub status_of_run : (co : Command) → RunsProgram co → IsStatusOfRun kept status n → IsStatus (Some co) kept status n
  status_of_run (Run ws ls wk p) runs is = is
  status_of_run (Sim ws ls wk sc p) runs is = is
  status_of_run (Load tr wk) runs is = is
  status_of_run (Keep ws ls wk) runs is = is
  status_of_run (Races ws ls) runs is = is
  status_of_run Check runs is = absurd runs

  pub not_answered : (co : Command) → RunsProgram co → HasAnswered (Some co) n → ⊥
  not_answered (Run ws ls wk p) runs h = h
  not_answered (Sim ws ls wk sc p) runs h = h
  not_answered (Load tr wk) runs h = h
  not_answered (Keep ws ls wk) runs h = h
  not_answered (Races ws ls) runs h = h
  not_answered Check runs h = runs

  module _ (left old new : Option (List ℕ)) (before after : ℕ → Type 0) where
    pub told_of_run : (co : Command) → RunsProgram co → Tells (IsTextBy co left) kept status n old new before after → TellsBy (Some co) left kept status n old new before after
    told_of_run (Run ws ls wk p) runs told = told
    told_of_run (Sim ws ls wk sc p) runs told = told
    told_of_run (Load tr wk) runs told = told
    told_of_run (Keep ws ls wk) runs told = told
    told_of_run (Races ws ls) runs told = told
    told_of_run Check runs told = absurd runs
