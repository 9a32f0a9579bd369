use Rattle.cw_open.proofs.WorkedAround.{two_blocks, put_back_rows, right_joins, waiting_rows, still_rows, entries_rows, tails_rows}
use Rattle.cw_open.proofs.worked_around.Goals as goal

pub returns : goal.returns
returns c = record { blocks = two_blocks; put_back = put_back_rows; joins = right_joins; waiting = waiting_rows; still = still_rows; entries = entries_rows; tails = tails_rows }
