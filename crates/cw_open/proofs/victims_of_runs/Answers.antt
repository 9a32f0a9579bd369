use Rattle.cw_open.proofs.Refused.Victims.{victims_above, dying_roll_back, free_are_safe}
use Rattle.cw_open.proofs.victims_of_runs.Goals as goal

pub returns : goal.returns
returns c = record { above = victims_above; dying = dying_roll_back; free = free_are_safe }
