use Rattle.cw_open.proofs.Runs.LawsHold.{trees, open_nodes, places, clocks}
use Rattle.cw_open.proofs.trees_of_runs.Goals as goal

pub returns : goal.returns
returns c = record { trees = trees; open_nodes = open_nodes; places = places; clocks = clocks }
