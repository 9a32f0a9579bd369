use Rattle.std.proofs.Common.{take}
use Rattle.cw_audit.proofs.Making.{Made}
use Rattle.cw_audit.proofs.accesses.make.Given as goal

abbrev pub invariant-loop-i : goal.invariant-loop-i
invariant-loop-i l = Made l.tree l.initial.memory.items (take l.i l.accesses) l.memory.items
