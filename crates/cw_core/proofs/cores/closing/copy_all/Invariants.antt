use Rattle.std.proofs.Common.{◌≡◌, take}
use Rattle.cw_core.proofs.cores.closing.copy_all.Given as goal

abbrev pub invariant-loop-conflict : goal.invariant-loop-conflict
invariant-loop-conflict l = l.copies.items ≡ take l.conflict-index l.conflicts
