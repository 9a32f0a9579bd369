use Rattle.std.proofs.Common.{◌≡◌, length}
use Rattle.cw_audit.proofs.entries.latest_writes.Given as goal

abbrev pub invariant-loop-i : goal.invariant-loop-i
invariant-loop-i l = record { last : length l.last.items ≡ l.cells; latest : length l.latest.items ≡ length l.tree }
