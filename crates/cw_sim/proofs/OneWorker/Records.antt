-- What moves of one worker come to, and its record: no access was refused.
use Rattle.std.proofs.Common.{◌≡◌, ℕ, ◌<◌, List, [], length, refl, ap, sym, ◌∙◌, subst, arith, Bool, true, false, Option, Some, None}
use Rattle.std.specs.Prelude.{ℤ, ◌==◌, ◌&&◌, not, Result, Ok, Err, IfOk}
use Rattle.std.specs.List.{list_any}
use Rattle.cw_io.specs.declared.schedule.Schedule.{Schedule}
use Rattle.cw_code.specs.declared.Limits.{Limits}
use Rattle.cw_code.specs.declared.program.Program.{Program}
use Rattle.cw_strand.specs.Programs.{IsCompiled}
use Rattle.cw_strand.specs.Names.{first_memory}
use Rattle.cw_strand.specs.Strands.{Strands}
use Rattle.cw_tree.specs.declared.closed.Halt.{Halt}
use Rattle.cw_tree.specs.declared.closed.Halt.TheVariants as halt
use Rattle.cw_tree.specs.declared.conflict.Conflict.{Conflict}
use Rattle.cw_tree.specs.Refusals.{refused_node}
use Rattle.cw_tree.specs.Series.{strand_of}
use Rattle.cw_tree.specs.InOrder.{conflicts_in_order, halt_in_order}
use Rattle.cw_open.specs.Machine.{OpenMachine}
use Rattle.cw_job.specs.Jobs.{Job, TakesWords}
use Rattle.cw_job.specs.Room.Strands.{StrandState, strands_of_job}
use Rattle.cw_record.specs.declared.record.Record.{Record}
use Rattle.cw_record.specs.declared.record_end.RecordEnd.TheVariants.{Budget}
use Rattle.cw_record.specs.Built.{memory_left, outputs_left}
use Rattle.cw_record.specs.ClosedRun.{EndsSo, end_after}
use Rattle.cw_record.specs.Records.{job_of_record}
use Rattle.cw_sim.specs.Workers.{Simulation, tree, first_simulation}
use Rattle.cw_sim.specs.Turns.{worker_at, ListsWorkers}
use Rattle.cw_sim.specs.Moves.{is_run_over, after_moves}
use Rattle.cw_sim.specs.Runs.{IsRecordOf, closed_of, simulation_of}
use Rattle.cw_sim.specs.OneWorker.{IsUnrefused, OneIsUnrefused}
use Rattle.cw_sim.proofs.Runs.Closing.{moves_come, job_closed}
use Rattle.cw_sim.proofs.Runs.Strands.{strands_lawful}
use Rattle.cw_sim.proofs.Runs.Turns.{worker_there}
use Rattle.cw_sim.proofs.OneWorker.Events.{unsplit_unrefused}
use Rattle.cw_sim.proofs.OneWorker.Splits.{moves_split_none}

pub one_unrefused : {A : Type 0} (s : Strands A) → OneIsUnrefused s
one_unrefused s first room budget limit turn are some turns =
    let m = first_simulation first room budget 1 s.start in
    let z = after_moves s turn limit 0 m in
    unsplit_unrefused first room budget z.core some (moves_come s first room budget 1 limit turn are some turns) (moves_split_none s turn limit 0 m refl)

-- ## Its record

-- where there is no conflict, none has spent its budget
none_spent : {A : Type 0} (s : Strands A) (m : OpenMachine) (before after reached : ℕ → A) (budget : ℕ) (h : Option Halt) (spent : Bool) (memory outputs : List ℤ) → m.conflicts ≡ [] → EndsSo s m before after reached budget h spent
    → (x : ℕ) → end_after (halt_in_order m.tree h) spent memory outputs ≡ Budget x → ⊥
none_spent s m before after reached budget (Some (halt.Fault y kind)) spent memory outputs none ends x e = absurd (cc e)
none_spent s m before after reached budget (Some (halt.Budget y)) spent memory outputs none ends x e =
    let P : List Conflict → Type 0 = λ cs. list_any (λ c. (c.attempt == budget) && (strand_of m.tree (refused_node m.tree c) == y)) cs ≡ true in
    absurd (let told = subst P none ends.told in cc told)
none_spent s m before after reached budget (Some halt.Memory) spent memory outputs none ends x e = ends
none_spent s m before after reached budget None true memory outputs none ends x e = absurd (cc e)
none_spent s m before after reached budget None false memory outputs none ends x e = absurd (cc e)

module _ (r : Record) (schedule : Schedule) (compiled : IsCompiled r.program) (takes : TakesWords r.program (length r.words)) (room : 0 < r.limits.strands) (lists : ListsWorkers schedule 1) where
  abbrev job : Job
  job = job_of_record r

  abbrev m : Simulation StrandState
  m = simulation_of job 1 schedule

  some : 0 < 1
  some = omega arith

  none : m.core.machine.conflicts ≡ []
  none =
      (one_unrefused (strands_of_job job) (first_memory job.program.cells) job.limits.strands job.limits.aborts job.limits.moves (worker_at schedule 1) (strands_lawful job compiled takes) room
      (λ n. worker_there schedule 1 n some lists)).1

  pub one_record : IsRecordOf m r → IsUnrefused r
  one_record is =
      let closed = job_closed job 1 schedule compiled takes room some lists in
      let (before, after, reached, states, ends) = closed.states in
      let t = tree m in
      let c = closed_of m in
      record {
        conflicts = is.conflicts ∙ ap (conflicts_in_order t) none;
        unspent = λ x e.
            none_spent (strands_of_job job) m.core.machine before after reached job.limits.aborts m.core.halt (not (is_run_over m)) (memory_left (first_memory r.program.cells) c.journals) (outputs_left c.tree c.conflicts r.limits.aborts) none ends x
            (sym is.end ∙ e);
      }

-- so it is of what is built of a program with its words and limits
pub built_unrefused : {E : Type 0} (p : Program) (words : List ℤ) (limits : Limits) (workers : ℕ) (schedule : Schedule) → IsCompiled p → TakesWords p (length words) → 0 < limits.strands → ListsWorkers schedule workers → (o : Result Record E)
    → IfOk o (λ r. r.program ≡ p) → IfOk o (λ r. r.words ≡ words) → IfOk o (λ r. r.limits ≡ limits) → IfOk o (λ r. IsRecordOf (simulation_of (job_of_record r) workers schedule) r) → workers ≡ 1 → IfOk o (λ r. IsUnrefused r)
built_unrefused p words limits workers schedule compiled takes room lists (Err e) program same limited is one = tt
built_unrefused p words limits workers schedule compiled takes room lists (Ok r) program same limited is one =
    let taken : TakesWords p (length r.words) = subst (λ (ws : List ℤ). TakesWords p (length ws)) (sym same) takes in
    one_record r schedule (subst IsCompiled (sym program) compiled) (subst (λ (q : Program). TakesWords q (length r.words)) (sym program) taken) (subst (λ (l : Limits). 0 < l.strands) (sym limited) room)
    (subst (λ n. ListsWorkers schedule n) one lists) (subst (λ n. IsRecordOf (simulation_of (job_of_record r) n schedule) r) one is)
