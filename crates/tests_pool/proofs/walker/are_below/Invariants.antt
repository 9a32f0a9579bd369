use Rattle.tests_pool.specs.Levels.{AreUnder}
use Rattle.tests_pool.proofs.walker.are_below.Given as goal

abbrev pub invariant-loop : goal.invariant-loop
invariant-loop l = AreUnder l.level l.left → AreUnder l.level l.initial.left
