use Rattle.std.proofs.Common.{◌≡◌, ◌++◌, drop, string_bytes}
use Rattle.std.specs.List.{flat_map}
use Rattle.cw_report.specs.Results.{output_line}
use Rattle.cw_report.proofs.results.push_outputs.Given as goal

abbrev pub invariant-loop-value : goal.invariant-loop-value
invariant-loop-value l = string_bytes l.text ++ flat_map output_line (drop l.value-index l.outputs) ≡ string_bytes l.fn.text ++ flat_map output_line l.outputs
