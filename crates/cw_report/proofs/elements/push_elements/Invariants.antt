use Rattle.std.proofs.Common.{◌≡◌, ◌++◌, ◌-◌, map}
use Rattle.std.specs.List.{range_with_len}
use Rattle.cw_report.specs.Elements.{element_text}
use Rattle.cw_report.specs.Report.{element_name}
use Rattle.cw_report.proofs.elements.push_elements.Given as goal

abbrev pub invariant-loop-place : goal.invariant-loop-place
invariant-loop-place l = map element_text l.list.items ++ map (element_name l.cell) (range_with_len l.place (l.place-end - l.place)) ≡ map element_text l.fn.list.items ++ map (element_name l.cell) (range_with_len 0 l.place-end)
