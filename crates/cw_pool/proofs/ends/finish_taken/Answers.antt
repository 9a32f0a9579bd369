use Rattle.cw_pool.proofs.Tasks.Taking.{of_one, both_done, taken_behind}
use Rattle.cw_pool.proofs.ends.finish_taken.Goals as goal

pub join-token-requires-clause-fork : goal.join-token-requires-clause-fork
join-token-requires-clause-fork g c = of_one _ _ _ _ _ _ _ _ _ c.requires.task c.requires.end

pub join-token-requires-clause-done : goal.join-token-requires-clause-done
join-token-requires-clause-done g c = both_done _ _ _ _ _ _ _ _ _ c.requires.task c.requires.end

pub rejoin-requires-after_bounds : goal.rejoin-requires-after_bounds
rejoin-requires-after_bounds g c lives within = taken_behind _ _ _ _ _ _ _ _ _ _ c.requires.task c.requires.end c.join-token.ensures
