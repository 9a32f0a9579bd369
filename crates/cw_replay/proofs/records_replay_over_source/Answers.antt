use Rattle.cw_replay.proofs.OverSource.OverSource.{over_source}
use Rattle.cw_replay.proofs.records_replay_over_source.Goals as goal

pub returns : goal.returns
returns c = over_source
