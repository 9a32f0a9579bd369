use Rattle.cw_replay.proofs.Spawning.ForksSpawned.{forks_need_spawns}
use Rattle.cw_replay.proofs.forks_need_spawns.Goals as goal

pub returns : goal.returns
returns c = forks_need_spawns
