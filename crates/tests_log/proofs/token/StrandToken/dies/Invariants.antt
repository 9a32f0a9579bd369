use Rattle.std.specs.Prelude.{ℕ, ◌⊎◌, Contains}
use Rattle.cw_log.specs.Tokens.{conflicts_in, logs}
use Rattle.tests_log.specs.Kept.{HasNoVictim}
use Rattle.tests_log.proofs.token.StrandToken.dies.Given as goal

-- what is left was around, and of the others none is a victim
abbrev pub invariant-loop : goal.invariant-loop
invariant-loop l = ((b : ℕ) → Contains l.around b → Contains l.self.around b) × ((b : ℕ) → Contains l.self.around b → Contains l.around b ⊎ HasNoVictim (conflicts_in (logs l.self)) b)
