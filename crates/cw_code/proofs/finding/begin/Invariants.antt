use Rattle.std.proofs.Common.{◌≡◌}
use Rattle.cw_code.specs.Nested.{none_yet}
use Rattle.cw_code.proofs.finding.begin.Given as goal

abbrev pub invariant-loop-n : goal.invariant-loop-n
invariant-loop-n l = l.places.items ≡ none_yet l.func l.n
