use Rattle.cw_open.proofs.Hands.Roots.{roots_stay}
use Rattle.cw_open.proofs.roots_stay.Goals as goal

pub returns : goal.returns
returns c = record { root = roots_stay }
