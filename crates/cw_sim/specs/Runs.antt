-- The whole run of a simulation, and its record.
use Rattle.std.specs.Prelude.{◌≡◌, ℕ, ℤ, ◌<◌, ◌^◌, false, not, List, length}
use Rattle.cw_io.specs.declared.schedule.Schedule.{Schedule}
use Rattle.cw_strand.specs.Names.{first_memory}
use Rattle.cw_strand.specs.Programs.{IsCompiled}
use Rattle.cw_strand.specs.Strands.{Strands}
use Rattle.cw_tree.specs.declared.closed.Closed.{Closed}
use Rattle.cw_tree.specs.InOrder.{in_order, conflicts_in_order, halt_in_order}
use Rattle.cw_core.specs.Closing.{journals_of}
use Rattle.cw_job.specs.Jobs.{Job, TakesWords}
use Rattle.cw_job.specs.Room.Strands.{StrandState, strands_of_job}
use Rattle.cw_record.specs.declared.record.Record.{Record}
use Rattle.cw_record.specs.Order.{order_of}
use Rattle.cw_record.specs.Records.{job_of_record, IsCoherentRun, HasItsOutputs, IsNumberedDepthFirst}
use Rattle.cw_record.specs.ClosedRun.{IsClosedRun}
use Rattle.cw_record.specs.Built.{end_left}
use Rattle.cw_sim.specs.Workers.{Simulation, first_simulation}
use Rattle.cw_sim.specs.Turns.{worker_at, ListsWorkers}
use Rattle.cw_sim.specs.Moves.{is_run_over, after_moves}
use Rattle.cw_sim.specs.Laws.{AreStrands}

-- what the moves of `workers` workers lead to, in the turns of a schedule, until the run ends or the limit of moves is reached
abbrev pub simulation_of : Job → (workers : ℕ) → Schedule → Simulation StrandState
simulation_of job workers schedule =
    let s = strands_of_job job in
    after_moves s (worker_at schedule workers) job.limits.moves 0 (first_simulation (first_memory job.program.cells) job.limits.strands job.limits.aborts workers s.start)

-- what a simulation leaves, in depth-first order
abbrev pub closed_of : {A : Type 0} → Simulation A → Closed
closed_of m =
    let t = m.core.machine.tree in
    record { tree = in_order t; journals = journals_of m.core; conflicts = conflicts_in_order t m.core.machine.conflicts; halt = halt_in_order t m.core.halt }

-- A record keeps what a simulation left: its tree in depth-first order, the live accesses of each cell, its conflicts (each with
-- the block that the columns named), its order, and its end. The end says how the run was stopped, or that its moves were spent if
-- it was not over, or what it left if it finished.
pub record IsRecordOf {A : Type 0} (m : Simulation A) (r : Record) : Type 0 where
  pub tree : r.tree ≡ (closed_of m).tree
  pub journals : r.journals ≡ (closed_of m).journals
  pub conflicts : r.conflicts ≡ (closed_of m).conflicts
  pub order : r.order ≡ order_of r.tree r.conflicts r.limits.aborts r.end
  pub end : r.end ≡ end_left (first_memory r.program.cells) r.limits.aborts (closed_of m) (not (is_run_over m))

-- The moves of workers lead to a closed run, whoever makes which move.
abbrev pub RunsAreClosed : {A : Type 0} → Strands A → Type 0
RunsAreClosed s =
    (first : List ℤ) (room budget workers limit : ℕ) (turn : ℕ → ℕ) → AreStrands s (length first) → 0 < room → ((n : ℕ) → turn n < workers)
    → (let m = after_moves s turn limit 0 (first_simulation first room budget workers s.start) in IsClosedRun s first budget m.core.machine (journals_of m.core) m.core.halt (not (is_run_over m)))

-- The record of the moves of any workers over a compiled program, with its words, is coherent for the program's strands. Its
-- outputs are those of its output nodes, in its order. Its nodes are numbered depth first.
abbrev pub RecordsAreCoherent : Type 0
RecordsAreCoherent =
    (r : Record) (workers : ℕ) (schedule : Schedule) → IsCompiled r.program → TakesWords r.program (length r.words) → 0 < r.limits.strands → 0 < workers → ListsWorkers schedule workers
    → (let m = simulation_of (job_of_record r) workers schedule in length m.core.machine.tree < 2 ^ 32 → IsRecordOf m r → IsCoherentRun r × (HasItsOutputs r × IsNumberedDepthFirst r.tree))
