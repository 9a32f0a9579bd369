-- Before its first move a simulation in memory stands for the one of the definitions.
use Rattle.std.proofs.Common.{◌≡◌, ℕ, zero, suc, ◌<◌, List, refl, ap, sym, subst, true, false, Option, Some}
use Rattle.std.specs.Prelude.{ℤ}
use Rattle.cw_tree.specs.Nodes.{is_pending}
use Rattle.cw_strand.specs.Names.{first_memory}
use Rattle.cw_open.specs.Steps.{first_machine as opening_machine}
use Rattle.cw_core.specs.State.{start}
use Rattle.cw_job.specs.declared.standing.Standing.{Standing}
use Rattle.cw_job.specs.Room.Strands.{StrandState, strands_of_job, state_of, IsOf}
use Rattle.cw_job.specs.Room.Saves.{StandsAs}
use Rattle.cw_job.proofs.Room.Backs.{stands_as_it}
use Rattle.cw_sim.specs.ThingsInMemory.{thing_at, Puts}
use Rattle.cw_sim.specs.WorkersInMemory.{workers_of}
use Rattle.cw_job.specs.Jobs.{job_of_task}
use Rattle.cw_sim.specs.InMemory.{Seen, StandsFor, IsBody, has_body, opened}
use Rattle.cw_job.specs.declared.task.Task.{Task}
use Rattle.cw_sim.specs.declared.moves.Driver.{Driver}
use Rattle.cw_sim.proofs.Laws.Opens.{opens}

none_pending : (first : List ℤ) (n : ℕ) → is_pending (opening_machine first).tree n ≡ false
none_pending first zero = refl
none_pending first (suc n) = refl

module _ (t : Task) (workers : ℕ) where
  abbrev z : Seen
  z = opened (job_of_task t) workers

  -- main alone has a body, and stands at its start
  body : (bodies : List (Option Standing)) (main : Standing) → state_of main ≡ (strands_of_job (job_of_task t)).start → IsOf t.program.now main → thing_at bodies 0 ≡ Some main
      → (x : ℕ) → has_body z.m.core x ≡ true → (b : Standing) × (thing_at bodies x ≡ Some b) × IsBody z x b
  body bodies main at of there zero has =
      let P : StrandState → Type 0 = λ a. StandsAs (state_of main) a in
      (main, there, record { program = of; at = λ e. at; like = subst P at (stands_as_it (state_of main)) })
  body bodies main at of there (suc x) has = absurd (cc has)

  -- a new core, main put in the place of no body, and new workers
  pub opens_stands : (c : Driver) (main : Standing) (none bodies : List (Option Standing))
      → 0 < t.limits.strands
      → c.task ≡ t
      → c.core ≡ start (first_memory t.program.now.cells) t.limits.strands t.limits.aborts
      → workers_of c.workers.items ≡ z.m.workers
      → state_of main ≡ (strands_of_job (job_of_task t)).start
      → IsOf t.program.now main
      → Puts none 0 (Some main) bodies
      → c.bodies ≡ bodies
      → StandsFor c z
  opens_stands c main none bodies some task core ws at of put held = record {
    job = ap job_of_task task;
    core = core;
    is_core = (opens (strands_of_job (job_of_task t)) (first_memory t.program.now.cells) t.limits.strands t.limits.aborts workers some).core.core;
    workers = ws;
    bodies = body c.bodies main at of (let P : List (Option Standing) → Type 0 = λ bs. thing_at bs 0 ≡ Some main in subst P (sym held) (put 0));
    saved = λ b pending. absurd (let none = none_pending (first_memory t.program.now.cells) b in cc (pending, none));
  }
