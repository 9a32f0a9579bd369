use Rattle.cw_replay.proofs.Attempts.Recorded.{conflict_has_fork}
use Rattle.cw_replay.proofs.conflicts_need_forks.Goals as goal

pub returns : goal.returns
returns c = λ t first kept cs h. conflict_has_fork t first kept cs h
