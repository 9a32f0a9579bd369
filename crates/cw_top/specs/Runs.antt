-- The run that a command keeps: of which program, with which words and limits, and who did it. What depends on the command is a
-- function of it, with a case for words that are no command. So a further command adds its cases where it differs from the others,
-- and changes no clause.
use Rattle.std.specs.Prelude.{◌≡◌, ◌≢◌, ◌<◌, ◌≤◌, ℕ, List, length, Option, Some, Ok, IfSome, IsSomeAnd}
use Rattle.cw_io.specs.declared.schedule.Schedule.{Schedule}
use Rattle.cw_text.specs.Syntax.{Source}
use Rattle.cw_text.specs.Text.{program}
use Rattle.cw_code.specs.declared.program.Program.{Program}
use Rattle.cw_strand.specs.Programs.{IsCompiled, IsProgramOf}
use Rattle.cw_tree.specs.Walks.{IsNumbered}
use Rattle.cw_job.specs.Jobs.{TakesWords}
use Rattle.cw_record.specs.declared.record.Record.{Record}
use Rattle.cw_record.specs.declared.record_end.RecordEnd.TheVariants.{Moves}
use Rattle.cw_record.specs.Records.{job_of_record, HasEnded, HasItsOutputs, IsCoherentRun, IsDepthFirst, IsNumberedDepthFirst, IsReplayed}
use Rattle.cw_sim.specs.Runs.{IsRecordOf, simulation_of}
use Rattle.cw_sim.specs.Turns.{ListsWorkers}
use Rattle.cw_sim.specs.OneWorker.{IsUnrefused}
use Rattle.cw_pool.specs.Recorded.{IsOfBoard, IsOfOneWorker}
use Rattle.cw_words.specs.declared.command.Command.{Command}
use Rattle.cw_words.specs.declared.command.Command.TheVariants.{Run, Sim, Load, Keep, Races, Check}
use Rattle.cw_gen.specs.Load.{load_tree}
use Rattle.cw_words.specs.Words.{limits_of, most_transfers, words_of}
use Rattle.cw_top.specs.Refusals.{Spells, newest_language}

-- ## The command

-- There are workers, and a column for the first strand. Each worker that is listed is one of them. A load has from 1 to 20,000
-- transfers.
abbrev pub IsReady : Command → Type 0
IsReady (Run words limits workers report) = (0 < workers) × (0 < limits.strands)
IsReady (Sim words limits workers schedule report) = (0 < workers) × ListsWorkers schedule workers × (0 < limits.strands)
IsReady (Load transfers workers) = (0 < workers) × (1 ≤ transfers) × (transfers ≤ most_transfers)
IsReady (Keep words limits workers) = (0 < workers) × (0 < limits.strands)
IsReady (Races words limits) = Unit {0}
IsReady Check = Unit {0}

-- The command runs a program.
abbrev pub RunsProgram : Command → Type 0
RunsProgram Check = ⊥
RunsProgram c = Unit {0}

-- the command has more than one worker
abbrev pub HasSeveralWorkers : Option Command → Type 0
HasSeveralWorkers (Some (Run words limits workers report)) = 1 < workers
HasSeveralWorkers (Some (Sim words limits workers schedule report)) = 1 < workers
HasSeveralWorkers (Some (Load transfers workers)) = 1 < workers
HasSeveralWorkers (Some (Keep words limits workers)) = 1 < workers
HasSeveralWorkers command = ⊥

-- the command has more than one worker, and they are threads
abbrev pub HasSeveralThreads : Option Command → Type 0
HasSeveralThreads (Some (Run words limits workers report)) = 1 < workers
HasSeveralThreads (Some (Load transfers workers)) = 1 < workers
HasSeveralThreads (Some (Keep words limits workers)) = 1 < workers
HasSeveralThreads command = ⊥

-- ## What is kept

-- the syntax tree of a command: the one that the whole source spells, or that of a load
abbrev pub IsItsSource : Command → (left : Option (List ℕ)) → Source → Type 0
IsItsSource (Load transfers workers) left source = source.items ≡ load_tree transfers
IsItsSource c left source = IfSome left (λ bytes. program (newest_language c) bytes ≡ Ok source)

-- the program of a command: the one that the whole source spells, or that of a load
abbrev pub IsItsProgram : Command → (left : Option (List ℕ)) → Program → Type 0
IsItsProgram (Load transfers workers) left p = IsProgramOf (load_tree transfers) p
IsItsProgram c left p = IfSome left (λ bytes. Spells (newest_language c) bytes p)

-- A run of this command: of its program, which takes its words, with its words and limits. It has its outputs, and its tree is
-- numbered depth first.
pub record IsRunBy (c : Command) (left : Option (List ℕ)) (r : Record) : Type 0 where
  pub program : IsItsProgram c left r.program
  pub compiled : IsCompiled r.program
  pub takes : TakesWords r.program (length r.words)
  pub words : r.words ≡ words_of c
  pub limits : r.limits ≡ limits_of c
  pub outputs : HasItsOutputs r
  pub tree : IsNumbered r.tree
  pub numbered : IsNumberedDepthFirst r.tree

-- Only a command leaves a run, and that is its own.
abbrev pub IsRunOf : Option Command → (left : Option (List ℕ)) → Record → Type 0
IsRunOf command left r = IsSomeAnd command (λ c. IsRunBy c left r)

-- ## Who did it

-- What workers on threads did. One worker had no refusals and went depth first, to the end or to the first fault; its record is
-- coherent and replays. With several workers, the tree is put together from what strands did. No moves can be spent.
pub record IsOfThreads (workers : ℕ) (r : Record) : Type 0 where
  pub one : workers ≡ 1 → IsOfOneWorker r
  pub several : workers ≢ 1 → IsOfBoard r
  pub moves : r.end ≢ Moves

-- The moves of `workers` workers did it, in the turns of a schedule. The run is their record, which is coherent and replays. With
-- one worker nothing was refused. Unless its moves were spent, its strands went depth first, to the end or to the first fault.
pub record IsOfMoves (workers : ℕ) (schedule : Schedule) (r : Record) : Type 0 where
  pub moves : IsRecordOf (simulation_of (job_of_record r) workers schedule) r
  pub coherent : IsCoherentRun r
  pub replays : IsReplayed r
  pub one_worker : workers ≡ 1 → IsUnrefused r
  pub depth_first : workers ≡ 1 → HasEnded r.end → IsDepthFirst r

-- How a command's run is done: by its number of threads, by the moves of its virtual workers, or depth first. A check does none.
abbrev pub IsDoneBy : Command → Record → Type 0
IsDoneBy (Run words limits workers report) r = IsOfThreads workers r
IsDoneBy (Sim words limits workers schedule report) r = IsOfMoves workers schedule r
IsDoneBy (Load transfers workers) r = IsOfThreads workers r
IsDoneBy (Keep words limits workers) r = IsOfThreads workers r
IsDoneBy (Races words limits) r = IsOfOneWorker r
IsDoneBy Check r = ⊥

abbrev pub IsDoneAs : Option Command → Record → Type 0
IsDoneAs command r = IsSomeAnd command (λ c. IsDoneBy c r)
