use Rattle.std.proofs.Common.{ℕ, ◌<◌}
use Rattle.cw_audit.specs.Naming.{WriteIsNamed}
use Rattle.cw_audit.proofs.naming.writes_are_named.Given as goal

abbrev pub invariant-loop-n : goal.invariant-loop-n
invariant-loop-n l = (n : ℕ) → n < l.n → WriteIsNamed l.tree l.cancels l.around n
