use Rattle.std.proofs.Common.{ℕ, ◌<◌}
use Rattle.cw_audit.specs.Victims.{VictimFits}
use Rattle.cw_audit.proofs.refused.victims_fit.Given as goal

abbrev pub invariant-loop-n : goal.invariant-loop-n
invariant-loop-n l = (n : ℕ) → n < l.n → VictimFits l.tree l.conflicts n
