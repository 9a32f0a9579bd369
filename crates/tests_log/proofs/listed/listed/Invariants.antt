use Rattle.tests_log.proofs.Listing.{AreRising}
use Rattle.tests_log.proofs.listed.listed.Given as goal

abbrev pub invariant-loop-cell : goal.invariant-loop-cell
invariant-loop-cell l = AreRising l.cell l.list.items
