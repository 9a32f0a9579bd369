use Rattle.cw_open.proofs.Hands.Rest.{right_may_join, rest_leaves_alone, forkers_go_on}
use Rattle.cw_open.proofs.right_strands_join.Goals as goal

pub returns : goal.returns
returns c = record { may = right_may_join; again = forkers_go_on; alone = rest_leaves_alone }
