use Rattle.cw_serial.specs.Orders.{LeadDown}
use Rattle.cw_serial.proofs.orders.Known.climb.Given as goal

abbrev pub invariant-up : goal.invariant-up
invariant-up l = LeadDown l.self.order.now l.at l.todo l.name

abbrev pub decreases-up : goal.decreases-up
decreases-up l = l.at
