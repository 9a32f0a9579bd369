use Rattle.std.proofs.Common.{◌≡◌, ◌++◌, drop, string_bytes}
use Rattle.cw_sheet.specs.SheetText.{signed_decimals, spaced}
use Rattle.cw_sheet.proofs.parts.push_spaced.Given as goal

abbrev pub invariant-loop-value : goal.invariant-loop-value
invariant-loop-value l = string_bytes l.text ++ spaced (signed_decimals (drop l.value-index l.values)) ≡ string_bytes l.fn.text ++ spaced (signed_decimals l.values)
