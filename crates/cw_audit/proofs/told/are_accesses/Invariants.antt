use Rattle.std.proofs.Common.{ℕ, ◌<◌, get_or}
use Rattle.cw_tree.specs.Accesses.{HasAccess}
use Rattle.cw_audit.proofs.told.are_accesses.Given as goal

abbrev pub invariant-loop-i : goal.invariant-loop-i
invariant-loop-i l = (k : ℕ) → k < l.i → HasAccess l.tree l.cell (get_or l.chain k 0)
