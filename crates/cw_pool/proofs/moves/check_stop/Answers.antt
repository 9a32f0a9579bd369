use Rattle.cw_pool.proofs.Tasks.Stopping.{is_told}
use Rattle.cw_pool.proofs.moves.check_stop.Goals as goal

pub invariant_of-now : goal.invariant_of-now
invariant_of-now g c = is_told _ _ _ _ _ _ _ _ c.now.invariant c.in-true.ensures
