use Rattle.std.proofs.Common.{◌≡◌, ◌++◌, drop, string_bytes}
use Rattle.std.specs.List.{flat_map}
use Rattle.cw_report.specs.Results.{cell_lines}
use Rattle.cw_report.proofs.results.push_cells.Given as goal

abbrev pub invariant-loop-cell : goal.invariant-loop-cell
invariant-loop-cell l = string_bytes l.text ++ flat_map (λ c. cell_lines c l.memory) (drop l.cell-index l.cells) ≡ string_bytes l.fn.text ++ flat_map (λ c. cell_lines c l.memory) l.cells
