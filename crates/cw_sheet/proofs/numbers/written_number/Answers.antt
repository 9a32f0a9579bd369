use Rattle.std.proofs.Common.{◌≡◌, true, false, sym, ◌∙◌, rules}
use Rattle.cw_sheet.specs.Items.{are_digits}
use Rattle.cw_sheet.proofs.Numerals.{no_digits, no_leading_zero, written_if}
use Rattle.cw_sheet.proofs.numbers.written_number.Goals as goal

pub returns-then-not-are_digits : goal.returns-then-not-are_digits
returns-then-not-are_digits c = let h : are_digits c.args.item.now ≡ false = search rules in no_digits c.args.item.now h

pub returns-then-has_leading_zero : goal.returns-then-has_leading_zero
returns-then-has_leading_zero c = no_leading_zero c.args.item.now (c.has_leading_zero.ensures.0 c.if-has_leading_zero.true)

pub returns : goal.returns
returns c =
    let h : are_digits c.args.item.now ≡ true = search rules in
    let z = c.if-has_leading_zero.false in
    written_if c.args.item.now c.value_of_digits.result h (λ both. let e : true ≡ false = sym (c.has_leading_zero.ensures.1 both) ∙ z in cc) c.value_of_digits.ensures
