use Rattle.std.proofs.Common.{refl}
use Rattle.std.specs.Char.{is_ascii_digit}
use Rattle.cw_text.proofs.Prefixes.{take_front, all_take_while, after_digits_is}
use Rattle.cw_text.proofs.scan.number_front.Goals as goal

pub number_token-requires : goal.number_token-requires
number_token-requires c = rw (c.split_at.ensures.front, c.digits_len.ensures.exact, take_front) (all_take_while is_ascii_digit c.args.text.now)

pub returns : goal.returns
returns c = rw (c.number_token.ensures, c.split_at.ensures.front, c.split_at.ensures.back, c.digits_len.ensures.exact, take_front, ← after_digits_is) refl
