use Rattle.std.proofs.Common.{◌≡◌, ◌++◌, ◌-◌, string_bytes}
use Rattle.std.specs.List.{flat_map, range_with_len}
use Rattle.cw_report.specs.Results.{element_line}
use Rattle.cw_report.proofs.results.push_cell.Given as goal

abbrev pub invariant-loop-index : goal.invariant-loop-index
invariant-loop-index l = string_bytes l.text ++ flat_map (element_line l.cell l.memory) (range_with_len l.index (l.index-end - l.index)) ≡ string_bytes l.fn.text ++ flat_map (element_line l.cell l.memory) (range_with_len 0 l.index-end)
