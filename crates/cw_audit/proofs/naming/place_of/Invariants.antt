use Rattle.std.proofs.Common.{◌-◌, ◌≤◌, length}
use Rattle.cw_audit.proofs.naming.place_of.Given as goal

abbrev pub invariant-loop-low : goal.invariant-loop-low
invariant-loop-low l = l.high ≤ length l.back

abbrev pub decreases-loop-low : goal.decreases-loop-low
decreases-loop-low l = l.high - l.low
