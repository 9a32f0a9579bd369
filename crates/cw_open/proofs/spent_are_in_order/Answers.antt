use Rattle.cw_open.proofs.Reordered.Spending.{spent_in_order}
use Rattle.cw_open.proofs.spent_are_in_order.Goals as goal

pub returns : goal.returns
returns c = record { spent = spent_in_order }
