use Rattle.std.proofs.Common.{◌≡◌, take, false}
use Rattle.cw_tree.specs.Cancels.{wrote_in}
use Rattle.cw_audit.proofs.cancels.wrote_in.Given as goal

abbrev pub invariant-loop-i : goal.invariant-loop-i
invariant-loop-i l = wrote_in l.tree l.block l.stamp (take l.i l.journal) ≡ false
