use Rattle.cw_sheet.proofs.Beneath.{Met}
use Rattle.cw_sheet.proofs.judging.all_beneath.Given as goal

abbrev pub invariant-loop-n : goal.invariant-loop-n
invariant-loop-n l = Met l.nodes l.n l.beneath.items
