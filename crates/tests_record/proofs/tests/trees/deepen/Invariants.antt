use Rattle.std.proofs.Common.{◌<◌, length}
use Rattle.tests_record.proofs.tests.trees.deepen.Given as goal

abbrev pub invariant-loop : goal.invariant-loop
invariant-loop l = (l.last < length l.tree) × (l.block < length l.tree)
