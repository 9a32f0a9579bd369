use Rattle.cw_open.proofs.Hands.Still.{still_stays}
use Rattle.cw_open.proofs.refused_stay.Goals as goal

pub returns : goal.returns
returns c = record { still = still_stays }
