use Rattle.cw_open.proofs.Hands.Unfinished.{one_fork_is_awaited, unfinished_are_live, roots_leave_none, untold_are_free}
use Rattle.cw_open.proofs.unfinished_strands.Goals as goal

pub returns : goal.returns
returns c = record { one = one_fork_is_awaited; live = unfinished_are_live; none = roots_leave_none; free = untold_are_free }
