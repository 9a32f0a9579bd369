use Rattle.std.proofs.Common.{◌≡◌, ◌++◌, drop, map}
use Rattle.std.specs.List.{flat_map}
use Rattle.cw_report.specs.Elements.{element_text}
use Rattle.cw_report.specs.Report.{element_names}
use Rattle.cw_report.proofs.elements.elements.Given as goal

abbrev pub invariant-loop-cell : goal.invariant-loop-cell
invariant-loop-cell l = map element_text l.list.items ++ flat_map element_names (drop l.cell-index l.cells) ≡ flat_map element_names l.cells
