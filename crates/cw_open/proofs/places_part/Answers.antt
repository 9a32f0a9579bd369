use Rattle.cw_open.proofs.Hands.Apart.{places_part}
use Rattle.cw_open.proofs.places_part.Goals as goal

pub returns : goal.returns
returns c = record { parallel = places_part }
