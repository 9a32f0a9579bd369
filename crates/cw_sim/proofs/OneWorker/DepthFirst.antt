-- The record of one worker that ended by itself, or at a fault: its order is the depth-first one.
use Rattle.std.proofs.Common.{◌≡◌, ℕ, ◌<◌, ◌^◌, List, [], ◌∷◌, length, refl, ap, sym, ◌∙◌, subst, arith}
use Rattle.std.specs.Prelude.{not, ℤ, Result, Ok, Err, IfOk}
use Rattle.cw_code.specs.declared.Limits.{Limits}
use Rattle.cw_code.specs.declared.program.Program.{Program}
use Rattle.cw_io.specs.declared.schedule.Schedule.{Schedule}
use Rattle.cw_strand.specs.Programs.{IsCompiled}
use Rattle.cw_strand.specs.Names.{first_memory}
use Rattle.cw_strand.specs.Strands.{Strands}
use Rattle.cw_tree.specs.declared.node.Node.{Node}
use Rattle.cw_tree.specs.declared.access.Entry.{Entry}
use Rattle.cw_tree.specs.declared.conflict.Conflict.{Conflict}
use Rattle.cw_tree.specs.Newest.{newest}
use Rattle.cw_open.specs.Machine.{OpenMachine}
use Rattle.cw_open.specs.Steps.{Step, after_open_step, after_all, first_machine}
use Rattle.cw_open.specs.Runs.{IsRun, at_once, at_any_time}
use Rattle.cw_open.specs.LeftFirst.{LeftsAreOlder, LeftsHaveFinished}
use Rattle.cw_open.proofs.Runs.LawsHold.{any_time}
use Rattle.cw_open.proofs.Reordered.Leaving.{histories_left}
use Rattle.cw_open.proofs.LeftFirst.AreOlder.{left_first_older, left_first_finished}
use Rattle.cw_core.specs.State.{CoreState, start}
use Rattle.cw_core.specs.Events.{steps_of_all}
use Rattle.cw_core.proofs.Events.Kept.{lists}
use Rattle.cw_job.specs.Jobs.{Job, TakesWords}
use Rattle.cw_job.specs.Room.Strands.{StrandState, strands_of_job}
use Rattle.cw_record.specs.declared.record.Record.{Record}
use Rattle.cw_record.specs.declared.record_end.RecordEnd.{RecordEnd}
use Rattle.cw_record.specs.Built.{memory_left, outputs_left}
use Rattle.cw_record.specs.Records.{job_of_record, HasItsOutputs, HasEnded, IsDepthFirst}
use Rattle.cw_record.proofs.ClosedRun.LeftMemory.{memory_is_left}
use Rattle.cw_replay.specs.LeftFirst.{CameLeftFirst, WentLeftFirst}
use Rattle.cw_replay.proofs.LeftFirst.Closed.{closed_went_left}
use Rattle.cw_replay.proofs.LeftFirst.DepthFirst.{left_first_depth_first}
use Rattle.cw_sim.specs.Workers.{Simulation, tree, first_simulation}
use Rattle.cw_sim.specs.Turns.{worker_at, ListsWorkers}
use Rattle.cw_sim.specs.Moves.{is_run_over, after_moves}
use Rattle.cw_sim.specs.Laws.{AreStrands}
use Rattle.cw_sim.specs.Runs.{IsRecordOf, closed_of, simulation_of}
use Rattle.cw_sim.specs.OneWorker.{ComesLeftFirst}
use Rattle.cw_sim.proofs.Laws.Opens.{opens}
use Rattle.cw_sim.proofs.Runs.Ahead.{ahead_all}
use Rattle.cw_sim.proofs.Runs.Closing.{job_left}
use Rattle.cw_sim.proofs.Runs.Strands.{strands_lawful}
use Rattle.cw_sim.proofs.Runs.Turns.{worker_there}
use Rattle.cw_sim.proofs.OneWorker.Faults.{faults_left}
use Rattle.cw_sim.proofs.OneWorker.Records.{one_unrefused}

-- ## Cores

any_run : (m : OpenMachine) (es : List Step) → IsRun at_once m es → IsRun (at_any_time (λ t us w. newest us)) m es
any_run m [] run = tt
any_run m (e ∷ es) run = (any_time m e run.0, any_run (after_open_step m e) es run.1)

-- what holds of the machine that steps lead to, in which left strands go first, holds of the core
module _ (first : List ℤ) (room budget : ℕ) (k : CoreState) (some : 0 < room) (comes : ComesLeftFirst first room budget k) where
  abbrev from : CoreState
  from = start first room budget

  abbrev steps : List Step
  steps = steps_of_all from comes.events

  run : IsRun at_once (first_machine first) steps
  run = (lists first room budget comes.events some comes.fit).0

  there : after_all (first_machine first) steps ≡ k.machine
  there = sym (lists first room budget comes.events some comes.fit).1 ∙ ap (λ (k : CoreState). k.machine) comes.there

  lefts_older : LeftsAreOlder k.machine.tree
  lefts_older =
      let P : OpenMachine → Type 0 = λ m. LeftsAreOlder m.tree in
      subst P there (left_first_older (λ t us w. newest us) first steps (any_run (first_machine first) steps run) comes.left_first (ahead_all from comes.events))

  lefts_finished : LeftsHaveFinished k.machine
  lefts_finished = subst LeftsHaveFinished there (left_first_finished (λ t us w. newest us) first steps (any_run (first_machine first) steps run) comes.left_first)

module _ {A : Type 0} (s : Strands A) (first : List ℤ) (room budget limit : ℕ) (turn : ℕ → ℕ) (are : AreStrands s (length first)) (some : 0 < room) (turns : (n : ℕ) → turn n < 1) where
  came_left : (let m = after_moves s turn limit 0 (first_simulation first room budget 1 s.start) in CameLeftFirst m.core.machine m.core.halt)
  came_left =
      let one = first_simulation first room budget 1 s.start in
      let k = (after_moves s turn limit 0 one).core in
      let z = one_unrefused s first room budget limit turn are some turns in
      record {
        unrefused = z.1;
        older = lefts_older first room budget k some z.0;
        finished = lefts_finished first room budget k some z.0;
        faulted = faults_left s first are turn turns limit 0 one (opens s first room budget 1 some) refl refl refl;
      }

-- ## Records

module _ (r : Record) (schedule : Schedule) (compiled : IsCompiled r.program) (takes : TakesWords r.program (length r.words)) (room : 0 < r.limits.strands) (lists : ListsWorkers schedule 1) where
  abbrev job : Job
  job = job_of_record r

  abbrev m : Simulation StrandState
  m = simulation_of job 1 schedule

  abbrev s : Strands StrandState
  s = strands_of_job job

  abbrev first : List ℤ
  first = first_memory r.program.cells

  abbrev budget : ℕ
  budget = r.limits.aborts

  some : 0 < 1
  some = omega arith

  one_depth_first : length (tree m) < 2 ^ 32 → IsRecordOf m r → HasItsOutputs r → HasEnded r.end → IsDepthFirst r
  one_depth_first few is outputs ended =
      let c = closed_of m in
      let left = job_left job 1 schedule compiled takes room some lists few in
      let run = left.run in
      let mem = memory_is_left (tree m) first c.journals (histories_left first m.core.machine c.journals run.reached run.complete run.entries).journals in
      let came = came_left s first r.limits.strands budget r.limits.moves (worker_at schedule 1) (strands_lawful job compiled takes) room (λ n. worker_there schedule 1 n some lists) in
      let went = closed_went_left StrandState s first budget m.core.machine c.journals m.core.halt (not (is_run_over m)) (memory_left first c.journals) (outputs_left c.tree c.conflicts budget) left.numbered run came mem in
      let E : RecordEnd → Type 0 = λ e. WentLeftFirst s first budget c.tree c.journals c.conflicts e in
      let C : List Conflict → Type 0 = λ cs. WentLeftFirst s first budget c.tree c.journals cs r.end in
      let J : List (List Entry) → Type 0 = λ kept. WentLeftFirst s first budget c.tree kept r.conflicts r.end in
      let T : List Node → Type 0 = λ t. WentLeftFirst s first budget t r.journals r.conflicts r.end in
      left_first_depth_first job budget r.tree r.journals r.conflicts r.end (subst T (sym is.tree) (subst J (sym is.journals) (subst C (sym is.conflicts) (subst E (sym is.end) went)))) outputs ended

-- so it is of what is built of a program with its words and limits
pub built_depth_first : {E : Type 0} (p : Program) (words : List ℤ) (limits : Limits) (workers : ℕ) (schedule : Schedule) → IsCompiled p → TakesWords p (length words) → 0 < limits.strands → ListsWorkers schedule workers
    → length (tree (simulation_of (record { program = p; words = words; limits = limits }) workers schedule)) < 2 ^ 32 → (o : Result Record E) → IfOk o (λ r. r.program ≡ p) → IfOk o (λ r. r.words ≡ words) → IfOk o (λ r. r.limits ≡ limits)
    → IfOk o (λ r. IsRecordOf (simulation_of (job_of_record r) workers schedule) r) → IfOk o (λ r. HasItsOutputs r) → workers ≡ 1 → IfOk o (λ r. HasEnded r.end → IsDepthFirst r)
built_depth_first p words limits workers schedule compiled takes room named few (Err e) program same limited is outputs one = tt
built_depth_first p words limits workers schedule compiled takes room named few (Ok r) program same limited is outputs one =
    let taken : TakesWords p (length r.words) = subst (λ (ws : List ℤ). TakesWords p (length ws)) (sym same) takes in
    let asked : Job = record { program = p; words = words; limits = limits } in
    let jobs : asked ≡ job_of_record r =
    ap (λ (q : Program). let j : Job = record { program = q; words = words; limits = limits } in j) (sym program)
    ∙ ap (λ (ws : List ℤ). let j : Job = record { program = r.program; words = ws; limits = limits } in j) (sym same)
    ∙ ap (λ (l : Limits). let j : Job = record { program = r.program; words = r.words; limits = l } in j) (sym limited) in
    one_depth_first r schedule (subst IsCompiled (sym program) compiled) (subst (λ (q : Program). TakesWords q (length r.words)) (sym program) taken) (subst (λ (l : Limits). 0 < l.strands) (sym limited) room)
    (subst (λ n. ListsWorkers schedule n) one named)
    (subst (λ n. length (tree (simulation_of (job_of_record r) n schedule)) < 2 ^ 32) one (subst (λ (j : Job). length (tree (simulation_of j workers schedule)) < 2 ^ 32) jobs few))
    (subst (λ n. IsRecordOf (simulation_of (job_of_record r) n schedule) r) one is) outputs
