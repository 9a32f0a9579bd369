use Rattle.cw_open.proofs.Hands.Around.{open_stay, around_stays}
use Rattle.cw_open.proofs.others_leave_around.Goals as goal

pub returns : goal.returns
returns c = record { opened = open_stay; around = around_stays }
