use Rattle.cw_open.proofs.LeftFirst.Unrefused.{left_first_unrefused, at_once_pending}
use Rattle.cw_open.proofs.left_strands_are_unrefused.Goals as goal

pub returns : goal.returns
returns c = record { unrefused = left_first_unrefused; at_once = at_once_pending }
