use Rattle.cw_audit.proofs.Rising.Before.{FloorsUp}
use Rattle.cw_audit.proofs.latest.floors.Given as goal

abbrev pub invariant-loop-n : goal.invariant-loop-n
invariant-loop-n l = FloorsUp l.tree l.n l.floors.items l.behind.items
