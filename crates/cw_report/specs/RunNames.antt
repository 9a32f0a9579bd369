-- The names of a run's elements and strands, looked up many times.
use Rattle.std.specs.Prelude.{◌≡◌, List, map}
use Rattle.std.specs.List.{flat_map}
use Rattle.cw_code.specs.declared.CellInfo.{CellInfo}
use Rattle.cw_tree.specs.declared.node.Node.{Node}
use Rattle.cw_report.specs.declared.names.RunNames.{RunNames}
use Rattle.cw_report.specs.Elements.{element_text}
use Rattle.cw_report.specs.Found.{AreStrands}
use Rattle.cw_report.specs.Report.{element_names}

-- They have the names of these cells' elements.
abbrev pub HasElements : RunNames → List CellInfo → Type 0
HasElements names cells = map element_text names.elements.items ≡ flat_map element_names cells

-- They have the names of this tree's strands.
abbrev pub HasStrands : RunNames → List Node → Type 0
HasStrands names t = AreStrands t names.strands.forks.items names.strands.sides.items names.strands.owners.items
