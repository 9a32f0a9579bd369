use Rattle.cw_open.proofs.Laws.Naming.{cancels_name}
use Rattle.cw_open.proofs.Runs.LawsHold.{cells, rise, are_live, have_all}
use Rattle.cw_open.proofs.lists_of_runs.Goals as goal

pub returns : goal.returns
returns c = record { cells = cells; cancels = cancels_name; rise = rise; live = are_live; all = have_all }
