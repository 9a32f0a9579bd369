use Rattle.cw_audit.proofs.Elders.{Counted}
use Rattle.cw_audit.proofs.attempts.attempts.Given as goal

abbrev pub invariant-loop-n : goal.invariant-loop-n
invariant-loop-n l = Counted l.tree l.n l.attempts.items l.last.items
