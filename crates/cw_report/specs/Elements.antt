-- The elements of a program's cells, in the form that a report looks them up in.
use Rattle.std.specs.Prelude.{ℕ, List, ◌++◌, codes, slice_get, Option, Some, None, unwrap_or}
use Rattle.std.specs.Fmt.{decimal}
use Rattle.cw_report.specs.declared.elements.Element.{Element}
use Rattle.cw_report.specs.Report.{unknown}

-- the name of a cell; for an element of an array, its position follows in brackets
abbrev pub placed_name : List ℕ → Option ℕ → List ℕ
placed_name name None = name
placed_name name (Some i) = name ++ codes "[" ++ decimal i ++ codes "]"

abbrev pub element_text : Element → List ℕ
element_text e = placed_name e.name.now e.place

-- the name of element `k`, if the elements have these names
abbrev pub named_element : List (List ℕ) → ℕ → List ℕ
named_element names k = unwrap_or (slice_get names k) unknown
