use Rattle.std.proofs.Common.{ℕ, ◌<◌}
use Rattle.cw_audit.specs.Latest.{ComesLate}
use Rattle.cw_audit.proofs.latest.stamps_rise.Given as goal

abbrev pub invariant-loop-n : goal.invariant-loop-n
invariant-loop-n l = (m : ℕ) → m < l.n → ComesLate l.tree m
