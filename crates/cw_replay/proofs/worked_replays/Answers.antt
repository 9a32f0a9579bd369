use Rattle.cw_replay.proofs.WorkedReplays.Worked.{worked_replays}
use Rattle.cw_replay.proofs.worked_replays.Goals as goal

pub returns : goal.returns
returns c = worked_replays
