use Rattle.std.proofs.Common.{◌<◌}
use Rattle.std.specs.Prelude.{All}
use Rattle.tests_log.proofs.token.are_before.Given as goal

abbrev pub invariant-loop : goal.invariant-loop
invariant-loop l = All (λ b. b < l.stamp) l.left → All (λ b. b < l.stamp) l.initial.left
