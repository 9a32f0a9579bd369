-- Every event that a move makes fits, and all is kept while the run is not over; so what moves come to is a closed run, and the record of
-- that of a compiled program is coherent.
use Rattle.std.proofs.Common.{ℕ, ◌<◌, ◌^◌, List, length, refl, sym, subst}
use Rattle.std.specs.Prelude.{ℤ, not}
use Rattle.cw_io.specs.declared.schedule.Schedule.{Schedule}
use Rattle.cw_strand.specs.Names.{first_memory}
use Rattle.cw_strand.specs.Programs.{IsCompiled}
use Rattle.cw_strand.specs.Strands.{Strands}
use Rattle.cw_tree.specs.declared.node.Node.{Node}
use Rattle.cw_tree.specs.declared.access.Entry.{Entry}
use Rattle.cw_tree.specs.declared.conflict.Conflict.{Conflict}
use Rattle.cw_core.specs.State.{start}
use Rattle.cw_core.specs.Closing.{journals_of}
use Rattle.cw_core.specs.Laws.{IsCore}
use Rattle.cw_core.proofs.Events.Going.{well}
use Rattle.cw_job.specs.Jobs.{Job, TakesWords}
use Rattle.cw_job.specs.Room.Strands.{StrandState, strands_of_job}
use Rattle.cw_record.specs.declared.record_end.RecordEnd.{RecordEnd}
use Rattle.cw_record.specs.ClosedRun.{IsClosedRun}
use Rattle.cw_record.specs.Built.{IsLeftBy, memory_left}
use Rattle.cw_record.specs.Coherent.{IsCoherent, HasOutputs}
use Rattle.cw_record.specs.Records.{job_of_record, IsNumberedDepthFirst}
use Rattle.cw_record.proofs.ClosedRun.LeftEnds.{has_outputs}
use Rattle.cw_record.proofs.ClosedRun.LeftRuns.{left_coherent}
use Rattle.cw_record.proofs.ClosedRun.NumberedTrees.{numbered_in_order}
use Rattle.cw_sim.specs.Workers.{Simulation, tree, first_simulation}
use Rattle.cw_sim.specs.Turns.{worker_at, ListsWorkers}
use Rattle.cw_sim.specs.Moves.{is_run_over, move, after_moves}
use Rattle.cw_sim.specs.Kept.{HasStates, IsKept}
use Rattle.cw_sim.specs.Laws.{AreStrands, ComesByEvents, MovesFit}
use Rattle.cw_sim.specs.Runs.{RunsAreClosed, RecordsAreCoherent, closed_of, simulation_of}
use Rattle.cw_sim.proofs.Laws.MoveKeeps.{moves_keep}
use Rattle.cw_sim.proofs.Laws.MoveNumbers.{move_number}
use Rattle.cw_sim.proofs.Laws.Opens.{opens}
use Rattle.cw_sim.proofs.Kept.StatesAfter.{states_after}
use Rattle.cw_sim.proofs.Laws.Wants.{wants_fit}
use Rattle.cw_sim.proofs.Runs.Whole.{comes_left, core_left, closed}
use Rattle.cw_sim.proofs.Runs.Strands.{strands_lawful}
use Rattle.cw_sim.proofs.Runs.Turns.{worker_there}

module _ {A : Type 0} (s : Strands A) where
  states_kept : (first : List ℤ) (m : Simulation A) (w : ℕ) → AreStrands s (length first) → IsKept s first m → HasStates s (move s w m)
  states_kept first m w are kept = states_after s first m w kept (wants_fit s first m are kept)

  pub moves_fit : MovesFit s
  moves_fit first m w are low kept off =
      let z = moves_keep s first m w are low kept.core kept.workers (wants_fit s first m are kept) off in
      (z.0, λ e. record { core = (z.1 e).0; workers = (z.1 e).1; states = states_kept first m w are kept })

  pub runs_closed : RunsAreClosed s
  runs_closed = closed s (opens s) moves_fit states_kept (λ w m. move_number s w m)

  pub moves_come : (first : List ℤ) (room budget workers limit : ℕ) (turn : ℕ → ℕ) → AreStrands s (length first) → 0 < room → ((n : ℕ) → turn n < workers)
      → ComesByEvents (start first room budget) (after_moves s turn limit 0 (first_simulation first room budget workers s.start)).core
  moves_come first room budget workers limit turn are some turns = comes_left s (opens s) moves_fit states_kept (λ w m. move_number s w m) first room budget workers limit turn are some turns

-- ## Of a job

module _ (job : Job) (workers : ℕ) (schedule : Schedule) (compiled : IsCompiled job.program) (takes : TakesWords job.program (length job.words)) (room : 0 < job.limits.strands) (some : 0 < workers) (lists : ListsWorkers schedule workers) where
  abbrev s : Strands StrandState
  s = strands_of_job job

  abbrev first : List ℤ
  first = first_memory job.program.cells

  abbrev m : Simulation StrandState
  m = simulation_of job workers schedule

  are : AreStrands s (length first)
  are = strands_lawful job compiled takes

  turns : (n : ℕ) → worker_at schedule workers n < workers
  turns n = worker_there schedule workers n some lists

  pub job_closed : IsClosedRun s first job.limits.aborts m.core.machine (journals_of m.core) m.core.halt (not (is_run_over m))
  job_closed = runs_closed s first job.limits.strands job.limits.aborts workers job.limits.moves (worker_at schedule workers) are room turns

  pub job_core : IsCore first m.core
  job_core = core_left s (opens s) (moves_fit s) (states_kept s) (λ w m. move_number s w m) first job.limits.strands job.limits.aborts workers job.limits.moves (worker_at schedule workers) are room turns

  pub job_left : length (tree m) < 2 ^ 32 → IsLeftBy job (not (is_run_over m)) m.core.machine m.core.halt (closed_of m)
  job_left few =
      let sound = (well first m.core job_core).sound.tree in
      record { numbered = record { root = sound.root; rooted = sound.rooted; few = few }; tree = refl; conflicts = refl; halt = refl; run = job_closed }

-- ## Its record

pub records_coherent : RecordsAreCoherent
records_coherent r workers schedule compiled takes room some lists few is =
    let job = job_of_record r in
    let first = first_memory r.program.cells in
    let budget = r.limits.aborts in
    let m = simulation_of job workers schedule in
    let c = closed_of m in
    let left = job_left job workers schedule compiled takes room some lists few in
    let All : List Node → List (List Entry) → List Conflict → RecordEnd → Type 0 = λ t kept cs e. IsCoherent (strands_of_job job) first budget t kept cs e × (HasOutputs t cs budget e × IsNumberedDepthFirst t) in
    let E : RecordEnd → Type 0 = λ e. All c.tree c.journals c.conflicts e in
    let C : List Conflict → Type 0 = λ cs. All c.tree c.journals cs r.end in
    let J : List (List Entry) → Type 0 = λ kept. All c.tree kept r.conflicts r.end in
    let T : List Node → Type 0 = λ t. All t r.journals r.conflicts r.end in
    subst T (sym is.tree) (subst J (sym is.journals) (subst C (sym is.conflicts) (subst E (sym is.end)
    (left_coherent job (not (is_run_over m)) m.core.machine m.core.halt c left, (has_outputs c.tree c.conflicts budget c.halt (not (is_run_over m)) (memory_left first c.journals), numbered_in_order m.core.machine.tree left.numbered)))))
