use Rattle.cw_pool.proofs.Tasks.Turning.{turns_goes, turns_behind, turns_inline, turns_done, second_inline, twice_done}
use Rattle.cw_pool.proofs.ends.turn_to_right.Goals as goal

pub next_branch-requires-clause-branch : goal.next_branch-requires-clause-branch
next_branch-requires-clause-branch g c = turns_inline _ _ _ _ _ _ _ _ c.requires.task c.requires.end

pub next_branch-requires-clause-done : goal.next_branch-requires-clause-done
next_branch-requires-clause-done g c = turns_done _ _ _ _ _ _ _ c.requires.task c.requires.end

pub next_branch-requires-in_default : goal.next_branch-requires-in_default
next_branch-requires-in_default g c = record {
  branch = second_inline _ _ _ _ _ _ _ _ _ c.requires.task c.requires.end c.next_branch.ensures;
  done = twice_done _ _ _ _ _ _ _ _ _ c.in_default.not-Goes c.requires.task c.requires.end c.next_branch.ensures;
}

pub rejoin-requires-after_bounds : goal.rejoin-requires-after_bounds
rejoin-requires-after_bounds g c lives within =
    turns_behind _ _ _ _ _ _ _ _ _ _ c.in_default.not-Goes c.requires.task c.requires.end c.next_branch.ensures c.next_branch-in_default.ensures

pub task_of-requires-after_bounds : goal.task_of-requires-after_bounds
task_of-requires-after_bounds g c lives within = turns_goes _ _ _ _ _ _ _ _ _ _ c.in-Goes.is c.requires.task c.requires.end c.next_branch.ensures c.push_reserved.ensures.items
