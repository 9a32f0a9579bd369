use Rattle.cw_pool.proofs.Tasks.Meeting.{met_behind, met_join, met_merge}
use Rattle.cw_pool.proofs.joins.join_stolen.Goals as goal

pub join-token-requires-clause-fork : goal.join-token-requires-clause-fork
join-token-requires-clause-fork g c =
    (met_join _ _ _ _ _ _ _ _ _ _ _ _ _ _ _ c.right.invariant.1 c.left.invariant.0 c.left.invariant.1 c.right.invariant.0 (c.may_end.ensures c.in-true.is) c.meet.ensures).0

pub join-token-requires-clause-done : goal.join-token-requires-clause-done
join-token-requires-clause-done g c =
    (met_join _ _ _ _ _ _ _ _ _ _ _ _ _ _ _ c.right.invariant.1 c.left.invariant.0 c.left.invariant.1 c.right.invariant.0 (c.may_end.ensures c.in-true.is) c.meet.ensures).1

pub merge_unless_stopped-token-requires-after_bounds : goal.merge_unless_stopped-token-requires-after_bounds
merge_unless_stopped-token-requires-after_bounds g c lives within =
    met_merge _ _ _ _ _ _ _ _ _ _ _ _ _ _ _ _ _ c.joint_mode-mode.ensures c.right.invariant.1 c.left.invariant.0 c.left.invariant.1 c.right.invariant.0 (c.may_end.ensures c.in-true.is) c.meet.ensures c.join-token.ensures

pub rejoin-requires-after_bounds : goal.rejoin-requires-after_bounds
rejoin-requires-after_bounds g c lives within =
    met_behind _ _ _ _ _ _ _ _ _ _ _ _ _ _ _ _ _ _ c.joint_mode-mode.ensures c.right.invariant.1 c.left.invariant.0 c.left.invariant.1 c.right.invariant.0 (c.may_end.ensures c.in-true.is) c.meet.ensures c.join-token.ensures
    c.merge_unless_stopped-token.ensures
