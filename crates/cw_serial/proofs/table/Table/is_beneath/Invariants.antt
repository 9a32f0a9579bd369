use Rattle.cw_serial.proofs.Beneath.{Climbs}
use Rattle.cw_serial.proofs.table.Table.is_beneath.Given as goal

abbrev pub invariant-loop-at : goal.invariant-loop-at
invariant-loop-at g l = Climbs l.self.names.items l.self.rows.items l.above l.number l.at

abbrev pub decreases-loop-at : goal.decreases-loop-at
decreases-loop-at g l = l.at
