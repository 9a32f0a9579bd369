use Rattle.cw_hands.proofs.Laws.Heard.{right_stays, verdicts_stay}
use Rattle.cw_hands.proofs.verdicts_stay.Goals as goal

pub returns : goal.returns
returns c = record { right = right_stays; stay = verdicts_stay }
