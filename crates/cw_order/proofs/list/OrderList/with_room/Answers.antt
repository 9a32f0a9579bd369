use Rattle.std.proofs.Common.{arith}
use Rattle.cw_order.proofs.list.OrderList.with_room.Goals as goal

pub invariant_of-result : goal.invariant_of-result
invariant_of-result c = record {
  places = omega (arith, c.in_ok-with_room.ensures.places);
  within = omega arith;
  few = omega arith;
  ring = c.in_ok-with_room.ensures.empty;
  there = omega (arith, c.in_ok-with_room.ensures.places);
  apart = (tt, tt);
}
