use Rattle.cw_hands.proofs.Worked.Strands.{two_strands, none_owed, not_ready}
use Rattle.cw_hands.proofs.worked_strands.Goals as goal

pub returns : goal.returns
returns c = record { strands = two_strands; none_owed = none_owed; not_ready = not_ready }
