use Rattle.std.proofs.Common.{◌≡◌, ◌<◌, ◌^◌, drop}
use Rattle.cw_text.specs.Lexemes.{value_of_digits}
use Rattle.cw_text.proofs.Digits.{value_on}
use Rattle.cw_sheet.proofs.numbers.value_of_digits.Given as goal

abbrev pub invariant-loop-digit : goal.invariant-loop-digit
invariant-loop-digit l = record {
  same : value_on l.value (drop l.digit-index l.digits) ≡ value_of_digits l.digits;
  fits : l.value < 2 ^ 64;
}
