use Rattle.std.proofs.Common.{take}
use Rattle.cw_audit.proofs.Backs.{AreByCell}
use Rattle.cw_audit.proofs.by_cell.journals.Given as goal

abbrev pub invariant-loop-i : goal.invariant-loop-i
invariant-loop-i l = AreByCell l.tree l.cells (take l.i l.accesses) l.journals.items
