use Rattle.std.proofs.Common.{ℕ, ◌<◌}
use Rattle.cw_audit.specs.Latest.{EndsLast}
use Rattle.cw_audit.proofs.latest.blocks_end_last.Given as goal

abbrev pub invariant-loop-b : goal.invariant-loop-b
invariant-loop-b l = (n : ℕ) → n < l.b → EndsLast l.tree n
