use Rattle.cw_hands.proofs.Laws.Others.{others_leave_ready}
use Rattle.cw_hands.proofs.others_leave_ready.Goals as goal

pub returns : goal.returns
returns c = others_leave_ready
