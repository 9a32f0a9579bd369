use Rattle.cw_hands.proofs.Laws.LeftIdle.{idle_show_none}
use Rattle.cw_hands.proofs.idle_left_strands.Goals as goal

pub returns : goal.returns
returns c = idle_show_none
