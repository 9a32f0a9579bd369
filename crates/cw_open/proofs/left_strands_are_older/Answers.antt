use Rattle.cw_open.proofs.LeftFirst.AreOlder.{left_first_older, left_first_finished}
use Rattle.cw_open.proofs.left_strands_are_older.Goals as goal

pub returns : goal.returns
returns c = record { older = left_first_older; finished = left_first_finished }
