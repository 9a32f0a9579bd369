-- What a simulation in memory stands for once one of its workers changes.
use Rattle.std.proofs.Common.{◌≡◌, ℕ, ◌<◌, List, length, ap, ◌∙◌, arith, Option}
use Rattle.std.specs.Prelude.{slice_set}
use Rattle.std.proofs.lemmas.List.{length-map}
use Rattle.cw_sim.specs.Workers.{Worker, worker, worker_in, with_run}
use Rattle.cw_sim.specs.Moves.{takes_back}
use Rattle.cw_sim.specs.InMemory.{Seen, StandsFor}
use Rattle.cw_sim.specs.WorkersInMemory.{worker_of, workers_of, without_waiting}
use Rattle.cw_sim.specs.declared.moves.Driver.{Driver}

module _ (c : Driver) (z : Seen) (held : StandsFor c z) where
  -- it stands for others, while the core and all strands stay
  pub with_workers : (new : Driver) (ws : List Worker) → workers_of new.workers.items ≡ ws → StandsFor (record c { workers = new.workers }) (record z { m = record z.m { workers = ws } })
  with_workers new ws e = record {
    job = held.job;
    core = held.core;
    is_core = held.is_core;
    workers = e;
    bodies = λ x has. (let b = held.bodies x has in (b.0, b.1, record { program = b.2.program; at = b.2.at; like = b.2.like }));
    saved = λ b pending. held.saved b pending;
  }

  -- a worker of the definitions is there
  pub worker_low : (w : ℕ) → w < length z.m.workers → w < length c.workers.items
  worker_low w low =
      let n = ap length held.workers in
      let one = length-map c.workers.items worker_of in
      omega (arith, n, one, low)

  -- worker w goes on with this strand, or is idle
  pub run_stands : (new : Driver) (w : ℕ) (r : Option ℕ) → workers_of new.workers.items ≡ slice_set (workers_of c.workers.items) w (record (worker_in (workers_of c.workers.items) w) { runs = r })
      → StandsFor (record c { workers = new.workers }) (record z { m = with_run w r z.m })
  run_stands new w r e = with_workers new (slice_set z.m.workers w (record (worker z.m w) { runs = r })) (e ∙ ap (λ ws. slice_set ws w (record (worker_in ws w) { runs = r })) held.workers)

  -- fork f no more waits in it
  pub back_stands : (new : Driver) (w f : ℕ) → workers_of new.workers.items ≡ slice_set (workers_of c.workers.items) w (without_waiting f (worker_in (workers_of c.workers.items) w))
      → StandsFor (record c { workers = new.workers }) (record z { m = takes_back w f z.m })
  back_stands new w f e = with_workers new (slice_set z.m.workers w (without_waiting f (worker z.m w))) (e ∙ ap (λ ws. slice_set ws w (without_waiting f (worker_in ws w))) held.workers)
