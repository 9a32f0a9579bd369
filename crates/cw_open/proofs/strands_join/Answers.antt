use Rattle.cw_open.proofs.Hands.Joined.{strands_may_join, forkers_run_again, joins_leave_alone}
use Rattle.cw_open.proofs.strands_join.Goals as goal

pub returns : goal.returns
returns c = record { may = strands_may_join; again = forkers_run_again; alone = joins_leave_alone }
