use Rattle.std.proofs.Common.{ℕ, ◌<◌}
use Rattle.cw_audit.specs.Later.{IsPendingLast}
use Rattle.cw_audit.proofs.series.pending_is_last.Given as goal

abbrev pub invariant-loop-n : goal.invariant-loop-n
invariant-loop-n l = (n : ℕ) → n < l.n → IsPendingLast l.tree n
