use Rattle.cw_audit.proofs.Spanning.Greatest.{GreatestDown}
use Rattle.cw_audit.proofs.spans.greatest_within.Given as goal

abbrev pub invariant-loop-n : goal.invariant-loop-n
invariant-loop-n l = GreatestDown l.tree l.n l.greatest.items

abbrev pub decreases-loop-n : goal.decreases-loop-n
decreases-loop-n l = l.n
