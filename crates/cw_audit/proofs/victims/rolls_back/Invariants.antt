use Rattle.std.proofs.Common.{◌≡◌, ℕ, ◌<◌, true}
use Rattle.cw_audit.specs.Victims.{rolls_on}
use Rattle.cw_audit.proofs.victims.rolls_back.Given as goal

abbrev pub invariant-loop-n : goal.invariant-loop-n
invariant-loop-n l = (n : ℕ) → n < l.n → rolls_on l.tree l.conflicts n ≡ true
