use Rattle.cw_tree.proofs.InOrder.Renaming.{trees_stay, nodes_stay, numbers_differ, ancestors_stay}
use Rattle.cw_tree.proofs.Walks.Siblings.{siblings_stay, numbered_depth_first}
use Rattle.cw_tree.proofs.InOrder.Sound.{series_stay, sound_stays}
use Rattle.cw_tree.proofs.laws.orders_rename.Goals as goal

pub returns : goal.returns
returns c = record { trees = trees_stay; nodes = nodes_stay; numbers = numbers_differ; ancestors = ancestors_stay; siblings = siblings_stay; numbered = numbered_depth_first; series = series_stay; sound = sound_stays }
