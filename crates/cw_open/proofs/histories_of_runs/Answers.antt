use Rattle.cw_open.proofs.Reordered.Leaving.{histories_left}
use Rattle.cw_open.proofs.Reordered.History.{histories_in_order}
use Rattle.cw_open.proofs.Runs.Unstopped.{told_any_time}
use Rattle.cw_open.proofs.histories_of_runs.Goals as goal

pub returns : goal.returns
returns c = record { left = histories_left; in_order = histories_in_order; any_time = told_any_time }
