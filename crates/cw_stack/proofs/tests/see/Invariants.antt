use Rattle.std.proofs.Common.{◌≡◌}
use Rattle.cw_stack.proofs.tests.see.Given as goal

abbrev pub invariant-loop-step : goal.invariant-loop-step
invariant-loop-step l = l.cell.cleaned ≡ l.cleaned
