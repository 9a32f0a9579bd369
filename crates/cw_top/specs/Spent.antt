-- Budgets and moves that were spent.
use Rattle.std.specs.Prelude.{◌≡◌, ℕ, List, false, Option, Some, IfSome, IsTrue}
use Rattle.cw_tree.specs.Names.{name_of}
use Rattle.cw_tree.specs.Nodes.{is_fork}
use Rattle.cw_tree.specs.Refusals.{telling}
use Rattle.cw_serial.specs.declared.ends.SerialEnd.TheVariants as last
use Rattle.cw_serial.specs.Machine.{Machine}
use Rattle.cw_serial.specs.MachineOf.{machine_of}
use Rattle.cw_job.specs.Room.Strands.{StrandState, strands_of_job}
use Rattle.cw_record.specs.declared.record.Record.{Record}
use Rattle.cw_record.specs.declared.record_end.RecordEnd.TheVariants.{Budget}
use Rattle.cw_record.specs.Items.{items}
use Rattle.cw_record.specs.Replay.{DoesAll, StandsRefused}
use Rattle.cw_record.specs.Records.{job_of_record}
use Rattle.cw_replay.specs.Attempts.{RecordsAttempts}
use Rattle.cw_sim.specs.Moves.{is_run_over}
use Rattle.cw_sim.specs.Runs.{simulation_of}
use Rattle.cw_words.specs.declared.command.Command.{Command}
use Rattle.cw_words.specs.declared.command.Command.TheVariants.{Run, Sim, Load, Keep}
use Rattle.cw_top.specs.OverSource.{Spawns}
use Rattle.cw_top.specs.Refusals.{newest_language}
use Rattle.cw_top.specs.Written.{end_of_one_memory}

-- In the order that is kept, one memory comes to where strand `x` stands, at what its last attempt was refused: the begin of a
-- block, or an access.
pub record StandsAtRefusal (r : Record) (x : ℕ) : Type 0 where
  pub machine : Machine StrandState
  pub acts : DoesAll (strands_of_job (job_of_record r)) r.tree (machine_of (job_of_record r)) (items r.tree r.conflicts r.limits.aborts r.end) machine
  pub stands : StandsRefused (strands_of_job (job_of_record r)) (telling r.tree r.conflicts r.limits.aborts x) machine (name_of r.tree x)

-- The run ended because a strand spent its budget. In the order that is kept, one memory stands at that strand, at what its last
-- attempt was refused.
pub record StandsAtBudget (r : Record) : Type 0 where
  pub strand : ℕ
  pub end : r.end ≡ Budget strand
  pub at_strand : end_of_one_memory r ≡ last.At r.order.last
  pub at_refusal : StandsAtRefusal r strand

-- Also, each attempt at that one block, or each refusal of that one access, is a conflict that is kept, with numbers from 1 to the
-- limit. So there is a fork.
pub record SpentItsBudget (r : Record) : Type 0 where
  pub stands : StandsAtBudget r
  pub attempts : RecordsAttempts r.tree r.conflicts r.limits.aborts stands.strand
  pub forks : (f : ℕ) × IsTrue (is_fork r.tree f)

-- What is known of a command's run that ended because a strand spent its budget. The attempts are known only of a coherent run.
abbrev pub IsSpentBy : Option Command → Record → Type 0
IsSpentBy (Some (Run words limits workers report)) r = StandsAtBudget r
IsSpentBy (Some (Load transfers workers)) r = StandsAtBudget r
IsSpentBy (Some (Keep words limits workers)) r = StandsAtBudget r
IsSpentBy (Some (Sim words limits workers schedule report)) r = SpentItsBudget r
IsSpentBy command r = ⊥

-- what is known of the source in that case: if it was simulated, it has a `spawn`
abbrev pub IsSpentOn : Option Command → (left : Option (List ℕ)) → Type 0
IsSpentOn (Some (Run words limits workers report)) left = Unit {0}
IsSpentOn (Some (Load transfers workers)) left = Unit {0}
IsSpentOn (Some (Keep words limits workers)) left = Unit {0}
IsSpentOn (Some (Sim words limits workers schedule report)) left = IfSome left (Spawns (newest_language (Sim words limits workers schedule report)))
IsSpentOn command left = ⊥

-- The command made all its moves, as many as its limit, and the run had not come to its end.
abbrev pub HasSpentMoves : Option Command → Record → Type 0
HasSpentMoves (Some (Sim words limits workers schedule report)) r = is_run_over (simulation_of (job_of_record r) workers schedule) ≡ false
HasSpentMoves command r = ⊥
