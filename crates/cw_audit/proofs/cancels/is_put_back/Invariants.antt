use Rattle.cw_audit.proofs.Backs.{Matched}
use Rattle.cw_audit.proofs.cancels.is_put_back.Given as goal

abbrev pub invariant-loop-cell : goal.invariant-loop-cell
invariant-loop-cell l = Matched l.tree l.first l.block l.stamp l.back l.cell l.place
