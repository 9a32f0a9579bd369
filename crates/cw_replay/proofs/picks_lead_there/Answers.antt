use Rattle.cw_record.proofs.Replay.OneRun.{replay_ends}
use Rattle.cw_replay.proofs.picks_lead_there.Goals as goal

pub returns : goal.returns
returns g c = λ s first budget t cs picks e rooted root r. replay_ends s t rooted root first budget cs e picks r
