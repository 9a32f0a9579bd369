use Rattle.std.proofs.Common.{◌≡◌, ℕ, ◌<◌, false}
use Rattle.cw_tree.specs.Nodes.{is_pending}
use Rattle.cw_audit.proofs.ending.none_pending.Given as goal

abbrev pub invariant-loop-n : goal.invariant-loop-n
invariant-loop-n l = (n : ℕ) → n < l.n → is_pending l.tree n ≡ false
