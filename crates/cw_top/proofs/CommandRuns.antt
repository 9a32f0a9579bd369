-- All is true of the run of a command that is said of one.
use Rattle.std.proofs.Common.{◌≡◌, ◌≢◌, ℕ, ℤ, List, [], length, Option, Some, None, Result, Ok, Err, IfOk, subst, sym}
use Rattle.cw_base.specs.declared.OutOfMemory.{OutOfMemory}
use Rattle.cw_text.specs.Syntax.{Declaration, Source}
use Rattle.cw_code.specs.declared.program.Program.{Program}
use Rattle.cw_strand.specs.Programs.{IsCompiled, IsProgramOf}
use Rattle.cw_tree.specs.Walks.{IsNumbered}
use Rattle.cw_job.specs.Jobs.{TakesWords}
use Rattle.cw_record.specs.declared.record.Record.{Record}
use Rattle.cw_record.specs.declared.record_end.RecordEnd.TheVariants.{Moves}
use Rattle.cw_record.specs.Records.{BlocksEnded, HasEnded, HasItsOutputs, IsCoherentRun, IsDepthFirst, IsNumberedDepthFirst, IsReplayed}
use Rattle.cw_pool.specs.Recorded.{IsOfBoard, IsOfOneWorker}
use Rattle.cw_words.specs.declared.command.Command.{Command}
use Rattle.cw_words.specs.declared.command.Command.TheVariants.{Run, Sim, Load, Keep, Races, Check}
use Rattle.cw_top.specs.Runs.{IsDoneBy, IsItsProgram, IsItsSource, IsOfThreads, IsRunBy}
use Rattle.cw_top.specs.Written.{telling_of}
use Rattle.cw_top.specs.declared.telling.Telling.{Telling}
use Rattle.cw_top.specs.declared.telling.Telling.TheVariants.{Races as RacesIn}
use Rattle.cw_words.specs.Words.{limits_of, words_of}

-- what a command's syntax tree is compiled to is its program
pub its_program : (co : Command) (left : Option (List ℕ)) (s : Source) (p : Program) → IsItsSource co left s → IsProgramOf s.items p → IsItsProgram co left p
its_program (Load tr w) left s p its is = subst (λ (ds : List Declaration). IsProgramOf ds p) its is
its_program (Run ws ls w rp) None s p its is = tt
its_program (Run ws ls w rp) (Some bytes) s p its is = (s, (its, is))
its_program (Sim ws ls w sc rp) None s p its is = tt
its_program (Sim ws ls w sc rp) (Some bytes) s p its is = (s, (its, is))
its_program (Keep ws ls w) None s p its is = tt
its_program (Races ws ls) None s p its is = tt
its_program Check None s p its is = tt
its_program Check (Some bytes) s p its is = (s, (its, is))
its_program (Races ws ls) (Some bytes) s p its is = (s, (its, is))
its_program (Keep ws ls w) (Some bytes) s p its is = (s, (its, is))

module _ (co : Command) (left : Option (List ℕ)) (p : Program) (its : IsItsProgram co left p) (compiled : IsCompiled p) (takes : TakesWords p (length (words_of co))) where
  pub is_run : (r : Record) → r.program ≡ p → r.words ≡ words_of co → r.limits ≡ limits_of co → HasItsOutputs r → IsNumbered r.tree → IsNumberedDepthFirst r.tree → IsRunBy co left r
  is_run r program words limits outputs tree numbered =
      let same : TakesWords p (length r.words) = subst (λ (ws : List ℤ). TakesWords p (length ws)) (sym words) takes in
      record {
        program = subst (IsItsProgram co left) (sym program) its;
        compiled = subst IsCompiled (sym program) compiled;
        takes = subst (λ (q : Program). TakesWords q (length r.words)) (sym program) same;
        words = words;
        limits = limits;
        outputs = outputs;
        tree = tree;
        numbered = numbered;
      }

-- what this number of workers on threads did
pub of_threads : (workers : ℕ) (kept : Result Record OutOfMemory) → (workers ≡ 1 → IfOk kept IsOfOneWorker) → (workers ≢ 1 → IfOk kept IsOfBoard) → IfOk kept (λ r. r.end ≢ Moves) → IfOk kept (IsOfThreads workers)
of_threads workers (Err e) one several moves = tt
of_threads workers (Ok r) one several moves = record { one = one; several = several; moves = moves }

-- what one worker did depth first
pub of_one_worker : (kept : Result Record OutOfMemory) → IfOk kept (λ r. r.conflicts ≡ []) → IfOk kept (λ r. HasEnded r.end) → IfOk kept IsCoherentRun → IfOk kept IsDepthFirst → IfOk kept IsReplayed → IfOk kept (λ r. BlocksEnded r.tree r.end) → IfOk kept IsOfOneWorker
of_one_worker (Err e) conflicts ended coherent depth_first replays blocks = tt
of_one_worker (Ok r) conflicts ended coherent depth_first replays blocks = record { conflicts = conflicts; ended = ended; coherent = coherent; depth_first = depth_first; replays = replays; blocks = blocks }

-- whose races are written is one worker
abbrev IsRacesIn : Telling → Type 0
IsRacesIn RacesIn = Unit {0}
IsRacesIn t = ⊥

of_races : (co : Command) (r : Record) → IsDoneBy co r → IsRacesIn (telling_of co) → IsOfOneWorker r
of_races (Run ws ls w p) r done is = absurd is
of_races (Sim ws ls w s p) r done is = absurd is
of_races (Load n w) r done is = absurd is
of_races (Keep ws ls w) r done is = absurd is
of_races (Races ws ls) r done is = done
of_races Check r done is = absurd done

pub one_worker : (co : Command) (r : Record) → IsDoneBy co r → telling_of co ≡ RacesIn → IsOfOneWorker r
one_worker co r done is = of_races co r done (subst IsRacesIn (sym is) tt)
