use Rattle.std.proofs.Common.{map, reverse}
use Rattle.std.specs.Borrow.{Bor}
use Rattle.cw_code.specs.declared.CellInfo.{CellInfo}
use Rattle.cw_compile.specs.Numbered.{HasElements}
use Rattle.cw_compile.proofs.elements.Elements.of_cells.Given as goal

abbrev pub invariant-loop-cell : goal.invariant-loop-cell
invariant-loop-cell l = HasElements l.extents (reverse (map (λ (c : Bor CellInfo). c.now) l.yielded))
