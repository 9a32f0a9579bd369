use Rattle.cw_audit.proofs.Rising.Beneath.{LatestDown}
use Rattle.cw_audit.proofs.latest.latest_beneath.Given as goal

abbrev pub invariant-loop-n : goal.invariant-loop-n
invariant-loop-n l = LatestDown l.tree l.n l.latest.items

abbrev pub decreases-loop-n : goal.decreases-loop-n
decreases-loop-n l = l.n
