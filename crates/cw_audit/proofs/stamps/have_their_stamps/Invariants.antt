use Rattle.std.proofs.Common.{ℕ, ◌<◌}
use Rattle.cw_audit.specs.Stamps.{HasItsStamps}
use Rattle.cw_audit.proofs.stamps.have_their_stamps.Given as goal

abbrev pub invariant-loop-n : goal.invariant-loop-n
invariant-loop-n l = (n : ℕ) → n < l.n → HasItsStamps l.tree n
