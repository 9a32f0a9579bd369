use Rattle.cw_tree.proofs.InOrder.Visits.{all_come}
use Rattle.cw_replay.proofs.Attempts.Recorded.{records_attempts}
use Rattle.cw_replay.proofs.attempts_are_recorded.Goals as goal

pub returns : goal.returns
returns c = λ t first kept cs h. records_attempts t first kept cs h (all_come t h.tree.rooted)
