use Rattle.std.proofs.Common.{◌≡◌, take}
use Rattle.cw_strand.specs.Names.{first_memory}
use Rattle.cw_record.specs.Built.{memory_left}
use Rattle.cw_record.proofs.left.memory_left.Given as goal

-- the journals so far left this memory
abbrev pub invariant-loop-cell : goal.invariant-loop-cell
invariant-loop-cell l = l.memory.items ≡ memory_left (first_memory l.program.cells) (take l.cell l.journals)
