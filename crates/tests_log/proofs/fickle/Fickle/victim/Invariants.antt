use Rattle.std.specs.Prelude.{ℕ, Contains}
use Rattle.tests_log.proofs.fickle.Fickle.victim.Given as goal

-- what is left was around
abbrev pub invariant-loop : goal.invariant-loop
invariant-loop l = (b : ℕ) → Contains l.around b → Contains l.token.around b
