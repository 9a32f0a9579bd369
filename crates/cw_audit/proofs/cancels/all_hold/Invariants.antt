use Rattle.std.proofs.Common.{◌≡◌, ℕ, ◌<◌, true}
use Rattle.cw_tree.specs.Accesses.{is_live}
use Rattle.cw_audit.specs.Backs.{CancelHolds}
use Rattle.cw_audit.proofs.cancels.all_hold.Given as goal

abbrev pub invariant-loop-n : goal.invariant-loop-n
invariant-loop-n l = (n : ℕ) → n < l.n → is_live l.tree n ≡ true → CancelHolds l.tree l.first n
