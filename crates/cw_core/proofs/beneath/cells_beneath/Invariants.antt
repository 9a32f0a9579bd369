use Rattle.cw_core.proofs.Undone.Walking.{walk_left}
use Rattle.cw_core.proofs.Touched.Noting.{Noting}
use Rattle.cw_core.proofs.beneath.cells_beneath.Given as goal

abbrev pub invariant-walk : goal.invariant-walk
invariant-walk l = Noting l.tree l.block l.touched l.node l.down

abbrev pub decreases-walk : goal.decreases-walk
decreases-walk l = walk_left l.tree l.node l.down
