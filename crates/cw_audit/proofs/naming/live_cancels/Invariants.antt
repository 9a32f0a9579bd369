use Rattle.cw_audit.proofs.GivenUp.{CancelsBelow}
use Rattle.cw_audit.proofs.naming.live_cancels.Given as goal

abbrev pub invariant-loop-n : goal.invariant-loop-n
invariant-loop-n l = CancelsBelow l.tree l.n l.cancels.items
