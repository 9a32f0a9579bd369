use Rattle.cw_pool.proofs.Tasks.Stopping.{wants_memory}
use Rattle.cw_pool.proofs.moves.halt_out_of_memory.Goals as goal

pub invariant_of-now : goal.invariant_of-now
invariant_of-now g c = wants_memory _ _ _ _ _ _ _ _ _ c.now.invariant c.halt.ensures
