use Rattle.cw_audit.proofs.Following.{FirstsUp}
use Rattle.cw_audit.proofs.firsts.firsts.Given as goal

abbrev pub invariant-loop-n : goal.invariant-loop-n
invariant-loop-n l = FirstsUp l.tree l.n l.firsts.items
