use Rattle.std.proofs.Common.{◌≡◌, ◌++◌, drop}
use Rattle.cw_code.specs.Printed.{lines_from}
use Rattle.cw_code.proofs.print.print_code.Given as goal

abbrev pub invariant-loop-place : goal.invariant-loop-place
invariant-loop-place l = l.text.items ++ lines_from l.place (drop l.place l.code.instrs) ≡ lines_from 0 l.code.instrs
