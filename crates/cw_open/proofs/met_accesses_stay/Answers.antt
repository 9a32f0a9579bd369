use Rattle.cw_open.proofs.Hands.Met.{none_conflicts_more, met_stays, newest_stay, met_in_time_stays}
use Rattle.cw_open.proofs.met_accesses_stay.Goals as goal

pub returns : goal.returns
returns c = record { none_more = none_conflicts_more; met = met_stays; newest = newest_stay; in_time = met_in_time_stays }
