use Rattle.cw_open.proofs.Times.Ahead.{at_once_told, ahead_timely}
use Rattle.cw_open.proofs.conflicts_at_once.Goals as goal

pub returns : goal.returns
returns c = record { told = at_once_told; timely = ahead_timely }
