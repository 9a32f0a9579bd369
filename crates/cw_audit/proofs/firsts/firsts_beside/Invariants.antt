use Rattle.cw_audit.proofs.Following.{BesidesDown}
use Rattle.cw_audit.proofs.firsts.firsts_beside.Given as goal

abbrev pub invariant-loop-n : goal.invariant-loop-n
invariant-loop-n l = BesidesDown l.tree l.n l.firsts.items l.past.items

abbrev pub decreases-loop-n : goal.decreases-loop-n
decreases-loop-n l = l.n
