use Rattle.std.proofs.Common.{◌≡◌, ◌-◌, length, drop}
use Rattle.cw_sim.specs.WorkersInMemory.{workers_of, first_with_forks, workers_next}
use Rattle.cw_sim.proofs.worker.worker_to_rob.Given as goal

-- those before were looked at, and none has forks
abbrev pub invariant-loop-i : goal.invariant-loop-i
invariant-loop-i l =
    (l.count ≡ length l.workers) × (first_with_forks (workers_of l.workers) (workers_next l.w (length l.workers)) ≡ first_with_forks (workers_of l.workers) (drop (l.i - 1) (workers_next l.w (length l.workers))))
