use Rattle.cw_open.proofs.Hands.Alone.{others_leave_alone}
use Rattle.cw_open.proofs.others_leave_alone.Goals as goal

pub returns : goal.returns
returns c = record { alone = others_leave_alone }
