use Rattle.std.proofs.Common.{◌≡◌}
use Rattle.cw_order.proofs.ring.Ring.make_room.Given as goal

abbrev pub invariant-loop-level : goal.invariant-loop-level
invariant-loop-level l = l.self ≡ l.fn.self
