use Rattle.cw_audit.proofs.GivenUp.{AroundBelow}
use Rattle.cw_audit.proofs.naming.around.Given as goal

abbrev pub invariant-loop-n : goal.invariant-loop-n
invariant-loop-n l = AroundBelow l.tree l.cancels l.n l.around.items
