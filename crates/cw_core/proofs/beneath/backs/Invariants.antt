use Rattle.cw_core.proofs.Touched.Listing.{Listing}
use Rattle.cw_core.proofs.beneath.backs.Given as goal

abbrev pub invariant-loop-cell : goal.invariant-loop-cell
invariant-loop-cell l = Listing l.touched l.cells.items l.backs.items l.cell-iterator
