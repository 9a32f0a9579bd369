use Rattle.cw_tree.proofs.NextNodes.Pending.{sound_grows, sound_refuses, sound_forks, sound_closes}
use Rattle.cw_tree.proofs.laws.trees_stay_sound.Goals as goal

pub returns : goal.returns
returns c = record { grows = sound_grows; refuses = sound_refuses; forks = sound_forks; closes = sound_closes }
