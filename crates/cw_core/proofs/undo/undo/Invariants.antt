use Rattle.cw_core.proofs.Undone.Walking.{walk_left}
use Rattle.cw_core.proofs.Undone.UndoWalk.{Undoing}
use Rattle.cw_core.proofs.undo.undo.Given as goal

abbrev pub invariant-walk : goal.invariant-walk
invariant-walk l = Undoing l.tree l.block l.initial.cells.items l.cells.items l.node l.down

abbrev pub decreases-walk : goal.decreases-walk
decreases-walk l = walk_left l.tree l.node l.down
