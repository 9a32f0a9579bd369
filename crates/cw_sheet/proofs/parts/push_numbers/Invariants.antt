use Rattle.std.proofs.Common.{◌≡◌, ◌++◌, drop, string_bytes}
use Rattle.cw_sheet.specs.SheetText.{decimals, spaced}
use Rattle.cw_sheet.proofs.parts.push_numbers.Given as goal

abbrev pub invariant-loop-number : goal.invariant-loop-number
invariant-loop-number l = string_bytes l.text ++ spaced (decimals (drop l.number-index l.numbers)) ≡ string_bytes l.fn.text ++ spaced (decimals l.numbers)
