use Rattle.std.proofs.Common.{◌≡◌, ◌++◌, drop, string_bytes}
use Rattle.cw_sheet.specs.SheetText.{back_items, spaced}
use Rattle.cw_sheet.proofs.nodes.push_back.Given as goal

abbrev pub invariant-loop-one : goal.invariant-loop-one
invariant-loop-one l = string_bytes l.text ++ spaced (back_items (drop l.one-index l.back)) ≡ string_bytes l.fn.text ++ spaced (back_items l.back)
