use Rattle.std.proofs.Common.{◌≡◌, ◌++◌, drop, string_bytes}
use Rattle.std.specs.List.{flat_map}
use Rattle.cw_sheet.specs.SheetText.{conflict_line}
use Rattle.cw_sheet.proofs.parts.push_each_conflict.Given as goal

abbrev pub invariant-loop-conflict : goal.invariant-loop-conflict
invariant-loop-conflict l = string_bytes l.text ++ flat_map conflict_line (drop l.conflict-index l.conflicts) ≡ string_bytes l.fn.text ++ flat_map conflict_line l.conflicts
