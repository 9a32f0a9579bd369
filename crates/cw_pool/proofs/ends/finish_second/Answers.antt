use Rattle.cw_pool.proofs.Tasks.Turning.{turns_done, second_behind, joins_inline}
use Rattle.cw_pool.proofs.ends.finish_second.Goals as goal

pub next_branch-requires-clause-branch : goal.next_branch-requires-clause-branch
next_branch-requires-clause-branch g c = joins_inline _ _ _ _ _ _ _ _ c.requires.task c.requires.end

pub next_branch-requires-clause-done : goal.next_branch-requires-clause-done
next_branch-requires-clause-done g c = turns_done _ _ _ _ _ _ _ c.requires.task c.requires.end

pub rejoin-requires-after_bounds : goal.rejoin-requires-after_bounds
rejoin-requires-after_bounds g c lives within = second_behind _ _ _ _ _ _ _ _ _ c.requires.task c.requires.end c.next_branch.ensures
