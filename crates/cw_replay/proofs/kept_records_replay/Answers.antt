use Rattle.cw_replay.proofs.RecordsReplay.Kept.{kept_records_replay}
use Rattle.cw_replay.proofs.kept_records_replay.Goals as goal

pub returns : goal.returns
returns c = kept_records_replay
