use Rattle.cw_record.proofs.Orders.InOrder.{HangsFrom}
use Rattle.cw_record.proofs.strands.is_in_order.Given as goal

abbrev pub invariant-loop-n : goal.invariant-loop-n
invariant-loop-n l = HangsFrom l.tree l.n
