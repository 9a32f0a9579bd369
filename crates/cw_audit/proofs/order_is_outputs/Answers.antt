use Rattle.cw_audit.proofs.Order.{order_is_outputs, only_outputs_break_order}
use Rattle.cw_audit.proofs.order_is_outputs.Goals as goal

pub returns-clause-holds : goal.returns-clause-holds
returns-clause-holds c = order_is_outputs

pub returns-clause-breaks : goal.returns-clause-breaks
returns-clause-breaks c = only_outputs_break_order
