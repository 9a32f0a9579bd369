use Rattle.cw_hands.proofs.Worked.Beside.{owed_beside, open_beside}
use Rattle.cw_hands.proofs.Worked.Heard.{heard_rows}
use Rattle.cw_hands.proofs.worked_beside.Goals as goal

pub returns : goal.returns
returns c = record { owed = owed_beside; opened = open_beside; heard = heard_rows }
