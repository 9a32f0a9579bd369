use Rattle.cw_replay.proofs.LeftFirst.DepthFirst.{left_first_depth_first}
use Rattle.cw_replay.proofs.left_first_is_depth_first.Goals as goal

pub returns : goal.returns
returns c = record { depth_first = left_first_depth_first }
