use Rattle.cw_hands.proofs.Laws.Runs.{machines_run, tiers_run, tiers_stand}
use Rattle.cw_hands.proofs.runs_are_both.Goals as goal

pub returns : goal.returns
returns c = record { machine = machines_run; tier = tiers_run; stands = tiers_stand }
