use Rattle.cw_replay.proofs.RecordsReplay.Ends.Theorem.{replays}
use Rattle.cw_replay.proofs.replays.Goals as goal

pub returns : goal.returns
returns g c = λ s deep. replays s deep
