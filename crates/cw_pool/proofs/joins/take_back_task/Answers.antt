use Rattle.cw_pool.proofs.Tasks.Backing.{back_fork, back_goes, back_there, waits_alone}
use Rattle.cw_pool.proofs.Tasks.Meeting.{unstarted_behind, unstarted_done, unstarted_fork}
use Rattle.cw_pool.proofs.joins.take_back_task.Goals as goal

pub join-token-requires : goal.join-token-requires
join-token-requires g c = record {
  fork = unstarted_fork _ _ _ _ _ _ _ _ _ _ _ _ _ c.left.invariant.0 c.left.invariant.1 (waits_alone _ _ _ _ _ _ _ _ c.right.invariant.1 c.in-Waits.is c.right.invariant.0) c.meet.ensures;
  done = unstarted_done _ _ _ _ _ _ _ _ _ _ _ _ _ c.left.invariant.0 c.left.invariant.1 (waits_alone _ _ _ _ _ _ _ _ c.right.invariant.1 c.in-Waits.is c.right.invariant.0) c.meet.ensures;
}

pub rejoin-requires-after_bounds : goal.rejoin-requires-after_bounds
rejoin-requires-after_bounds g c lives within =
    unstarted_behind _ _ _ _ _ _ _ _ _ _ _ _ _ _ c.in_default-mode.not-Goes c.left.invariant.0 c.left.invariant.1 (waits_alone _ _ _ _ _ _ _ _ c.right.invariant.1 c.in-Waits.is c.right.invariant.0) c.meet.ensures c.join-token.ensures

pub take_back-requires-clause-fork : goal.take_back-requires-clause-fork
take_back-requires-clause-fork g c = back_fork _ _ _ _ _ _ _ _ _ _ _ _ _ c.in-Goes.is c.left.invariant.0 c.left.invariant.1 (waits_alone _ _ _ _ _ _ _ _ c.right.invariant.1 c.in-Waits.is c.right.invariant.0) c.meet.ensures

pub take_back-requires-clause-back : goal.take_back-requires-clause-back
take_back-requires-clause-back g c = back_there _ _ _ _ _ _ _ _ _ _ _ _ _ c.in-Goes.is c.left.invariant.0 c.left.invariant.1 (waits_alone _ _ _ _ _ _ _ _ c.right.invariant.1 c.in-Waits.is c.right.invariant.0)

pub task_of-requires-after_bounds : goal.task_of-requires-after_bounds
task_of-requires-after_bounds g c lives within =
    back_goes _ _ _ _ _ _ _ _ _ _ _ _ _ _ _ _ c.in-Goes.is c.left.invariant.0 c.left.invariant.1 (waits_alone _ _ _ _ _ _ _ _ c.right.invariant.1 c.in-Waits.is c.right.invariant.0) c.meet.ensures c.take_back.ensures.0 c.take_back.ensures.1 c.push_reserved.ensures.items
