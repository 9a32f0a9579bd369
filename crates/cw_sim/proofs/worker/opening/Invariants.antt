use Rattle.std.proofs.Common.{◌≡◌, ◌-◌, ◌∷◌, replicate, Some}
use Rattle.cw_sim.specs.Workers.{idle}
use Rattle.cw_sim.specs.WorkersInMemory.{workers_of}
use Rattle.cw_sim.proofs.worker.opening.Given as goal

abbrev pub invariant-loop-i : goal.invariant-loop-i
invariant-loop-i l = workers_of l.all.items ≡ record idle { runs = Some 0 } ∷ replicate (l._i - 1) idle
