use Rattle.cw_open.proofs.Hands.Judged.{barred_part, barred_met}
use Rattle.cw_open.proofs.barred_are_told.Goals as goal

pub returns : goal.returns
returns c = record { parallel = barred_part; met = barred_met }
