use Rattle.cw_replay.proofs.SameMachines.SameMachines.{same_replays}
use Rattle.cw_replay.proofs.same_wants_replay.Goals as goal

pub returns : goal.returns
returns g c = λ s t deep other_deep same. same_replays s t deep other_deep same
