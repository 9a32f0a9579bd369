use Rattle.std.proofs.Common.{◌≡◌, map, take}
use Rattle.cw_core.specs.Kept.{fresh_cell}
use Rattle.cw_core.proofs.cores.first_cells.Given as goal

abbrev pub invariant-loop-value : goal.invariant-loop-value
invariant-loop-value l = l.cells.items ≡ map fresh_cell (take l.value-index l.init)
