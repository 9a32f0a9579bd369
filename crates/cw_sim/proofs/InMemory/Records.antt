-- What a simulation in memory leaves: whether it is over, and its record.
use Rattle.std.proofs.Common.{◌≡◌, ℕ, ◌<◌, ◌^◌, List, length, ap, sym, ◌∙◌, subst, Bool, Option}
use Rattle.std.specs.Prelude.{◌↔◌, not, false, ℤ, Result, Ok, Err, IfOk}
use Rattle.std.proofs.lemmas.Result.{IfOk-weaker}
use Rattle.cw_code.specs.declared.Limits.{Limits}
use Rattle.cw_code.specs.declared.program.Program.{Program}
use Rattle.cw_io.specs.declared.schedule.Schedule.{Schedule}
use Rattle.cw_strand.specs.Programs.{IsCompiled}
use Rattle.cw_tree.specs.declared.node.Node.{Node}
use Rattle.cw_tree.specs.declared.closed.Closed.{Closed}
use Rattle.cw_tree.specs.declared.closed.Halt.{Halt}
use Rattle.cw_tree.specs.InOrder.{in_order}
use Rattle.cw_tree.specs.Walks.{IsNumbered}
use Rattle.cw_open.specs.Machine.{OpenMachine}
use Rattle.cw_job.specs.Jobs.{Job, TakesWords}
use Rattle.cw_job.specs.Room.Strands.{StrandState}
use Rattle.cw_record.specs.declared.record.Record.{Record}
use Rattle.cw_record.specs.Built.{HasRecord, IsLeftBy}
use Rattle.cw_record.specs.Order.{order_of}
use Rattle.cw_record.specs.declared.record_end.RecordEnd.TheVariants.{Moves}
use Rattle.cw_record.specs.Records.{job_of_record, HasItsOutputs, IsCoherentRun, IsNumberedDepthFirst, IsReplayed}
use Rattle.cw_record.proofs.ClosedRun.LeftRuns.{left_has_record}
use Rattle.cw_replay.proofs.RecordsReplay.Kept.{kept_records_replay}
use Rattle.cw_sim.specs.Workers.{Simulation, tree}
use Rattle.cw_sim.specs.Turns.{ListsWorkers}
use Rattle.cw_sim.specs.Moves.{is_run_over}
use Rattle.cw_sim.specs.Runs.{IsRecordOf, closed_of, simulation_of}
use Rattle.cw_sim.proofs.Runs.Closing.{job_left}
use Rattle.cw_sim.proofs.Runs.Unstopped.{left_told}

-- whether it is over is so of the same job, workers and schedule
pub over_same : (j k : Job) (v w : ℕ) (s t : Schedule) (b : Bool) → b ≡ is_run_over (simulation_of j v s) → j ≡ k → v ≡ w → s ≡ t → not b ≡ not (is_run_over (simulation_of k w t))
over_same j k v w s t b e jobs workers schedules =
    ap not e
    ∙ ap (λ (i : Job). not (is_run_over (simulation_of i v s))) jobs
    ∙ ap (λ n. not (is_run_over (simulation_of k n s))) workers
    ∙ ap (λ u. not (is_run_over (simulation_of k w u))) schedules

-- This is what the moves of a job come to, closed, and whether they were spent.
pub record IsMoved (job : Job) (workers : ℕ) (schedule : Schedule) (c : Closed) (spent : Bool) : Type 0 where
  pub closed : c ≡ closed_of (simulation_of job workers schedule)
  pub spends : spent ≡ not (is_run_over (simulation_of job workers schedule))
  pub few : length (tree (simulation_of job workers schedule)) < 2 ^ 32

-- it is so of the same words
pub moved_same : (program : Program) (limits : Limits) (ws vs : List ℤ) (workers : ℕ) (schedule : Schedule) (c : Closed) (spent : Bool) → ws ≡ vs
    → IsMoved (record { program = program; words = ws; limits = limits }) workers schedule c spent → IsMoved (record { program = program; words = vs; limits = limits }) workers schedule c spent
moved_same program limits ws vs workers schedule c spent same is =
    let P : List ℤ → Type 0 = λ xs. IsMoved (record { program = program; words = xs; limits = limits }) workers schedule c spent in subst P same is

module _ (job : Job) (workers : ℕ) (schedule : Schedule) (compiled : IsCompiled job.program) (takes : TakesWords job.program (length job.words)) (room : 0 < job.limits.strands) (some : 0 < workers) (lists : ListsWorkers schedule workers) where
  abbrev m : Simulation StrandState
  m = simulation_of job workers schedule

  module _ (c : Closed) (spent : Bool) (is : IsMoved job workers schedule c spent) where
    -- it is what a closed run of the job leaves
    closed_left : IsLeftBy job spent m.core.machine m.core.halt c
    closed_left =
        let P : Closed → Type 0 = λ x. IsLeftBy job spent m.core.machine m.core.halt x in
        let Q : Bool → Type 0 = λ b. IsLeftBy job b m.core.machine m.core.halt (closed_of m) in
        subst P (sym is.closed) (subst Q (sym is.spends) (job_left job workers schedule compiled takes room some lists is.few))

    -- so it has a record
    pub closed_has_record : HasRecord c.tree c.halt
    closed_has_record = left_has_record job spent m.core.machine m.core.halt c closed_left

    -- and what is built of it is coherent
    pub built_coherent : {E : Type 0} (o : Result Record E) → IfOk o (λ r. (k : OpenMachine) (h : Option Halt) → IsLeftBy job spent k h c → IsCoherentRun r) → IfOk o (λ r. IsCoherentRun r)
    built_coherent o f = IfOk-weaker o (λ r. (k : OpenMachine) (h : Option Halt) → IsLeftBy job spent k h c → IsCoherentRun r) (λ r. IsCoherentRun r) (λ r g. g m.core.machine m.core.halt closed_left) f

    -- and numbered depth first
    pub built_numbered : {E : Type 0} (o : Result Record E) → IfOk o (λ r. (t : List Node) → IsNumbered t → c.tree ≡ in_order t → IsNumberedDepthFirst r.tree) → IfOk o (λ r. IsNumberedDepthFirst r.tree)
    built_numbered o f =
        IfOk-weaker o (λ r. (t : List Node) → IsNumbered t → c.tree ≡ in_order t → IsNumberedDepthFirst r.tree) (λ r. IsNumberedDepthFirst r.tree) (λ r g. g (tree m) closed_left.numbered closed_left.tree) f

-- a record of a program with its words that is coherent, and has its outputs and its order, replays
module _ (p : Program) (words : List ℤ) (compiled : IsCompiled p) (takes : TakesWords p (length words)) where
  pub built_replays : {E : Type 0} (o : Result Record E) → IfOk o (λ r. r.program ≡ p) → IfOk o (λ r. r.words ≡ words) → IfOk o (λ r. IsCoherentRun r) → IfOk o (λ r. HasItsOutputs r)
      → IfOk o (λ r. r.order ≡ order_of r.tree r.conflicts r.limits.aborts r.end) → IfOk o (λ r. IsReplayed r)
  built_replays (Err e) program is coherent outputs order = tt
  built_replays (Ok r) program is coherent outputs order =
      let same : TakesWords p (length r.words) = subst (λ (ws : List ℤ). TakesWords p (length ws)) (sym is) takes in
      kept_records_replay r
      (record { program = subst IsCompiled (sym program) compiled; words = subst (λ (q : Program). TakesWords q (length r.words)) (sym program) same; coherent = coherent })
      outputs order

-- and the record of the moves tells whether they were spent
pub built_spent : {E : Type 0} (workers : ℕ) (schedule : Schedule) (o : Result Record E) → IfOk o (λ r. IsRecordOf (simulation_of (job_of_record r) workers schedule) r)
    → IfOk o (λ r. r.end ≡ Moves ↔ (is_run_over (simulation_of (job_of_record r) workers schedule) ≡ false))
built_spent workers schedule o is = IfOk-weaker o (λ r. IsRecordOf (simulation_of (job_of_record r) workers schedule) r) (λ r. r.end ≡ Moves ↔ (is_run_over (simulation_of (job_of_record r) workers schedule) ≡ false)) (λ r z. left_told (job_of_record r) workers schedule r z) is
