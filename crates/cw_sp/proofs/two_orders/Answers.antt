use Rattle.cw_sp.proofs.Orders.{two_orders, leaves_are_apart, leaves_by_orders, english_is_depth_first}
use Rattle.cw_sp.proofs.two_orders.Goals as goal

pub returns-clause-orders : goal.returns-clause-orders
returns-clause-orders c = two_orders

pub returns-clause-apart : goal.returns-clause-apart
returns-clause-apart c = leaves_are_apart

pub returns-clause-leaves : goal.returns-clause-leaves
returns-clause-leaves c = leaves_by_orders

pub returns-clause-english : goal.returns-clause-english
returns-clause-english c = english_is_depth_first
