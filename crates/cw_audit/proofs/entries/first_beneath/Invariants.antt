use Rattle.std.proofs.Common.{◌-◌, ◌≤◌}
use Rattle.cw_audit.proofs.entries.first_beneath.Given as goal

abbrev pub invariant-loop-low : goal.invariant-loop-low
invariant-loop-low l = (l.low ≤ l.high) × (l.high ≤ l.end)

abbrev pub decreases-loop-low : goal.decreases-loop-low
decreases-loop-low l = l.high - l.low
