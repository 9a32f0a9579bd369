use Rattle.std.proofs.Common.{ℕ, ◌<◌, get_or}
use Rattle.cw_tree.specs.declared.conflict.Conflict.{Conflict}
use Rattle.cw_tree.specs.Refusals.{IsRecorded}
use Rattle.cw_audit.proofs.recorded.are_recorded.Given as goal

abbrev pub invariant-loop-i : goal.invariant-loop-i
invariant-loop-i l = (k : ℕ) (d : Conflict) → k < l.i → IsRecorded l.tree (get_or l.conflicts k d)
