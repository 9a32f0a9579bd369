use Rattle.cw_open.proofs.Hands.Timed.{runs_begin, runs_go_on, runs_are_in_time, times_are_low, ahead_is_next}
use Rattle.cw_open.proofs.Runs.States.{at_any_step}
use Rattle.cw_open.proofs.runs_go_on.Goals as goal

pub returns : goal.returns
returns c d = record { begin = runs_begin c.R.Ruled.rules; on = runs_go_on c.R.Ruled.rules; allowed = at_any_step c.R.Ruled.rules; in_time = runs_are_in_time c.R.Ruled.rules; low = times_are_low c.R.Ruled.rules; ahead = ahead_is_next c.R.Ruled.rules }
