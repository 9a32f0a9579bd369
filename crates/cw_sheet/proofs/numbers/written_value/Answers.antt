use Rattle.std.proofs.Common.{◌≡◌, ◌==◌, true, rules}
use Rattle.cw_text.specs.Lexemes.{begins_by}
use Rattle.cw_sheet.proofs.Numerals.{written_is_signed}
use Rattle.cw_sheet.proofs.numbers.written_value.Goals as goal

pub returns-in_err-written_number : goal.returns-in_err-written_number
returns-in_err-written_number c =
    let sign : begins_by (λ x. x == 45) c.args.item.now ≡ true = search rules in
    rw c.from_residual.ensures (λ h. c.in_err-written_number.ensures (rw c.behind_sign.ensures (written_is_signed c.args.item.now sign h).0))
