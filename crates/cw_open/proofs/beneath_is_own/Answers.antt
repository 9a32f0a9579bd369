use Rattle.cw_open.proofs.Hands.Beneath.{beneath_is_own}
use Rattle.cw_open.proofs.beneath_is_own.Goals as goal

pub returns : goal.returns
returns c = record { own = beneath_is_own }
