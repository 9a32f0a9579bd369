use Rattle.cw_hands.proofs.Laws.Waiting.{open_places_stay, waiting_stay, owed_stay}
use Rattle.cw_hands.proofs.waiting_places_stay.Goals as goal

pub returns : goal.returns
returns c = record { opened = open_places_stay; waiting = waiting_stay; owed = owed_stay }
