use Rattle.cw_strand.proofs.Below.{stays_below}
use Rattle.cw_strand.proofs.begin_stays_below.Goals as goal

pub returns : goal.returns
returns c = λ code main words limits sound begin x forks inner wants stands inside stays. stays_below code sound main words limits begin x forks inner wants stands inside stays
