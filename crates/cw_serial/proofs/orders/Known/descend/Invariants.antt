use Rattle.std.proofs.Common.{length}
use Rattle.cw_serial.proofs.Ordered.{Descends}
use Rattle.cw_serial.proofs.orders.Known.descend.Given as goal

abbrev pub invariant-loop-at : goal.invariant-loop-at
invariant-loop-at l = Descends l.machine l.fn.self l.fn.number l.fn.todo l.self l.above l.todo

abbrev pub decreases-loop-at : goal.decreases-loop-at
decreases-loop-at l = length l.todo
