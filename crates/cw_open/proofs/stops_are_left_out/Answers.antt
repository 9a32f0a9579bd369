use Rattle.cw_open.proofs.Runs.Unstopped.{stops_left_out}
use Rattle.cw_open.proofs.stops_are_left_out.Goals as goal

pub returns : goal.returns
returns c = record { stops = stops_left_out }
