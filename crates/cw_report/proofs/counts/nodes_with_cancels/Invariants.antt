use Rattle.cw_report.proofs.Cancels.{Met}
use Rattle.cw_report.proofs.counts.nodes_with_cancels.Given as goal

abbrev pub invariant-loop-n : goal.invariant-loop-n
invariant-loop-n l = Met l.tree l.n l.cancels.items
