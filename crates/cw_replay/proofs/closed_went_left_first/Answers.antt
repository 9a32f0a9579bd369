use Rattle.cw_replay.proofs.LeftFirst.Closed.{closed_went_left}
use Rattle.cw_replay.proofs.closed_went_left_first.Goals as goal

pub returns : goal.returns
returns g c = record { went = closed_went_left _ }
