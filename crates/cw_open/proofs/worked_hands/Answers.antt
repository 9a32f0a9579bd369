use Rattle.cw_open.proofs.WorkedHands.{two_hands, brought_by_other}
use Rattle.cw_open.proofs.worked_hands.Goals as goal

pub returns : goal.returns
returns c = record { hands = two_hands; brought = brought_by_other }
