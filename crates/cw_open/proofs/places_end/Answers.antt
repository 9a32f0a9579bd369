use Rattle.cw_open.proofs.Hands.Tails.{tails_grow, tails_close}
use Rattle.cw_open.proofs.places_end.Goals as goal

pub returns : goal.returns
returns c = record { grow = tails_grow; close = tails_close }
