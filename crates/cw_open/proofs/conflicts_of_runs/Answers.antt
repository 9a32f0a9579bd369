use Rattle.cw_open.proofs.Refused.GoingBack.{askers_tried}
use Rattle.cw_open.proofs.Refused.Recorded.{conflicts_recorded}
use Rattle.cw_open.proofs.conflicts_of_runs.Goals as goal

pub returns : goal.returns
returns c = record { askers = askers_tried; recorded = conflicts_recorded }
