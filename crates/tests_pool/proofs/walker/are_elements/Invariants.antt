use Rattle.std.proofs.Common.{drop}
use Rattle.cw_strand.specs.Strands.{AreElements}
use Rattle.tests_pool.proofs.walker.are_elements.Given as goal

abbrev pub invariant-loop-one : goal.invariant-loop-one
invariant-loop-one l = AreElements l.elements (drop l.one-index l.back) → AreElements l.elements l.back
