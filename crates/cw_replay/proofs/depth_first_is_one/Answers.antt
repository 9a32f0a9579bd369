use Rattle.cw_replay.proofs.LeftFirst.OneOrder.{depth_first_one}
use Rattle.cw_replay.proofs.depth_first_is_one.Goals as goal

pub returns : goal.returns
returns c = record { one = depth_first_one }
