use Rattle.std.proofs.Common.{◌≡◌, take}
use Rattle.cw_strand.specs.Names.{first_memory}
use Rattle.cw_job.proofs.memory.first_memory.Given as goal

abbrev pub invariant-loop-cell : goal.invariant-loop-cell
invariant-loop-cell l = l.memory.items ≡ first_memory (take l.cell-index l.cells)
