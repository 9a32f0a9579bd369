use Rattle.cw_audit.proofs.Coming.{LatersDown}
use Rattle.cw_audit.proofs.series.laters.Given as goal

abbrev pub invariant-loop-n : goal.invariant-loop-n
invariant-loop-n l = LatersDown l.tree l.n l.laters.items l.met.items

abbrev pub decreases-loop-n : goal.decreases-loop-n
decreases-loop-n l = l.n
