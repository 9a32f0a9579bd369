-- Status 7: a strand spent its budget, and one memory comes to where it stands; of a coherent run each attempt is kept.
use Rattle.std.proofs.Common.{◌≡◌, ◌∙◌, ℕ, false, List, Option, Some, None, IfSome, IsSomeAnd, IsTrue, inl, inr, refl, subst, sym}
use Rattle.std.specs.Option.{option_map_or}
use Rattle.cw_strand.specs.Names.{first_memory}
use Rattle.cw_tree.specs.declared.conflict.Conflict.{Conflict}
use Rattle.cw_tree.specs.Nodes.{is_fork}
use Rattle.cw_tree.specs.Refusals.{MaySpend, Spent, may_be_last, telling, tells}
use Rattle.cw_tree.specs.Walks.{IsNumbered}
use Rattle.cw_tree.proofs.InOrder.Visits.{all_come}
use Rattle.cw_job.specs.Room.Strands.{strands_of_job}
use Rattle.cw_record.specs.declared.record.Record.{Record}
use Rattle.cw_record.specs.declared.record_end.RecordEnd.{RecordEnd}
use Rattle.cw_record.specs.declared.record_end.RecordEnd.TheVariants.{Finished, Fault, Budget, Moves}
use Rattle.cw_record.specs.Coherent.{halt_of}
use Rattle.cw_record.specs.Records.{HasEnded, IsCoherentRun, IsReplayed, job_of_record}
use Rattle.cw_record.specs.Replay.{IsSpent, SameEnd}
use Rattle.cw_record.proofs.Replay.OneRun.{same_end}
use Rattle.cw_replay.proofs.Found.{find_contains}
use Rattle.cw_replay.proofs.Attempts.Recorded.{conflict_has_fork, records_attempts}
use Rattle.cw_words.specs.declared.command.Command.{Command}
use Rattle.cw_words.specs.declared.command.Command.TheVariants.{Run, Sim, Load, Keep, Races, Check}
use Rattle.cw_top.specs.declared.outcome.Note.{Note}
use Rattle.cw_top.specs.declared.outcome.Note.TheVariants as note
use Rattle.cw_top.specs.Outcome.{IsStatus, IsStatusOfRun, status_of_end}
use Rattle.cw_top.specs.Runs.{IsDoneAs, IsDoneBy, IsRunOf}
use Rattle.cw_top.specs.Spent.{IsSpentBy, SpentItsBudget, StandsAtBudget}
use Rattle.cw_top.specs.Written.{end_of_one_memory}
use Rattle.cw_top.proofs.Judged.{none_of_runs, run_or_check}

pub by_end : (e : RecordEnd) → 7 ≡ status_of_end e → (x : ℕ) × (e ≡ Budget x)
by_end (Finished m o) is = cc
by_end (Fault x k) is = cc
by_end (Budget x) is = (x, refl)
by_end Moves is = cc

module _ (r : Record) (tree : IsNumbered r.tree) (same : IsReplayed r) (x : ℕ) (is : r.end ≡ Budget x) where
  pub stands : StandsAtBudget r
  stands = record {
    strand = x;
    end = is;
    at_strand = subst (λ (e : RecordEnd). SameEnd e r.order (end_of_one_memory r)) is (same_end r tree.rooted tree.root same);
    at_refusal = record {
      machine = same.machine;
      acts = same.acts;
      stands = subst (λ (e : RecordEnd). IsSpent (strands_of_job (job_of_record r)) r.tree r.conflicts r.limits.aborts e same.machine) is same.spent;
    };
  }

  module _ (coherent : IsCoherentRun r) where
    spent : Spent r.tree r.conflicts r.limits.aborts x
    spent = subst (λ (e : RecordEnd). MaySpend r.tree r.conflicts r.limits.aborts (halt_of e)) is coherent.spent

    -- the conflict that tells so is one of those that are kept, and so there is a fork
    forks : (f : ℕ) × IsTrue (is_fork r.tree f)
    forks = by_telling (telling r.tree r.conflicts r.limits.aborts x) refl
      where
        by_telling : (o : Option Conflict) → telling r.tree r.conflicts r.limits.aborts x ≡ o → (f : ℕ) × IsTrue (is_fork r.tree f)
        by_telling None e = absurd (let h = subst (λ (o : Option Conflict). IsTrue (option_map_or (may_be_last r.tree) o false)) e spent.told in cc h)
        by_telling (Some k) e = conflict_has_fork r.tree (first_memory r.program.cells) r.journals r.conflicts coherent.history k (find_contains (tells r.tree r.limits.aborts x) r.conflicts k e).0

    pub budget : SpentItsBudget r
    unfolding stands
    budget = record {
      stands = stands;
      attempts = records_attempts r.tree (first_memory r.program.cells) r.journals r.conflicts coherent.history (all_come r.tree tree.rooted) r.limits.aborts x spent;
      forks = forks;
    }

by_command : (co : Command) (r : Record) → IsNumbered r.tree → IsReplayed r → IsDoneBy co r → (x : ℕ) → r.end ≡ Budget x → IsSpentBy (Some co) r
by_command (Run ws ls w p) r tree same done x is = stands r tree same x is
by_command (Load tr w) r tree same done x is = stands r tree same x is
by_command (Keep ws ls w) r tree same done x is = stands r tree same x is
by_command Check r tree same done x is = absurd done
by_command (Races ws ls) r tree same done x is = subst HasEnded is done.ended
by_command (Sim ws ls w s p) r tree same done x is = budget r tree same x is done.coherent

spends_run : (command : Option Command) (kept : Option Record) (status : ℕ) (n : Note) (left : Option (List ℕ)) → IsStatusOfRun kept status n → IfSome kept (IsRunOf command left) → IfSome kept (IsDoneAs command) → status ≡ 7 → IsSomeAnd kept (IsSpentBy command)
spends_run command None status note.Nothing left is run done seven = absurd is
spends_run None (Some r) status note.Nothing left is run done seven = absurd run
spends_run (Some c) (Some r) status note.Nothing left (inl (same, is)) run done seven = let (x, e) = by_end r.end (sym seven ∙ is) in by_command c r run.tree same done x e
spends_run (Some c) (Some r) status note.Nothing left (inr (other, is)) run done seven = cc
spends_run command kept status note.Usage left (none, is) run done seven = cc
spends_run command kept status note.Memory left (none, is) run done seven = cc
spends_run command kept status note.Read left (none, is) run done seven = cc
spends_run command kept status note.Write left (some, is) run done seven = cc
spends_run command kept status (note.Text f) left (none, is) run done seven = cc
spends_run command kept status (note.Name f) left (none, is) run done seven = cc
spends_run command kept status (note.Sheet f) left is run done seven = absurd is

pub spends : (command : Option Command) (kept : Option Record) (status : ℕ) (n : Note) (left : Option (List ℕ)) → IsStatus command kept status n → IfSome kept (IsRunOf command left) → IfSome kept (IsDoneAs command) → status ≡ 7 → IsSomeAnd kept (IsSpentBy command)
spends command kept status n left is run done seven = elim (run_or_check command kept status n is) [
  | inl of_run ↦ spends_run command kept status n left of_run run done seven
  | inr of_check ↦ absurd ((none_of_runs status n of_check.2).2 seven)
]
