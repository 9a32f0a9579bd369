use Rattle.std.proofs.Common.{◌≡◌, [], replicate}
use Rattle.cw_record.proofs.drawing.Drawing.begin.Given as goal

abbrev pub invariant-loop : goal.invariant-loop
invariant-loop l = l.journals.items ≡ replicate l.counter []
