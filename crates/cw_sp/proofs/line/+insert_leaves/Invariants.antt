use Rattle.std.proofs.Common.{length}
use Rattle.cw_sp.proofs.line.+insert_leaves.Given as goal

abbrev pub decreases-insert_leaves : goal.decreases-insert_leaves
decreases-insert_leaves l = length l.leaves.now
