-- Numerals that are spelled as they are written.
use Rattle.std.specs.Prelude.{ℕ, ◌^◌, Bool, ◌&&◌, List, nat_lt}
use Rattle.std.specs.Fmt.{decimal, signed_decimal}
use Rattle.std.specs.Str.{bytes_eq}
use Rattle.cw_text.specs.Lexemes.{value_of_digits}
use Rattle.cw_sheet.specs.Items.{is_i64, value_of_numeral}

-- a number below the limit
abbrev pub is_written_below : (limit : ℕ) → List ℕ → Bool
is_written_below limit i = nat_lt (value_of_digits i) limit && bytes_eq i (decimal (value_of_digits i))

abbrev pub is_written : List ℕ → Bool
is_written i = is_written_below (2 ^ 64) i

abbrev pub is_written_value : List ℕ → Bool
is_written_value i = is_i64 (value_of_numeral i) && bytes_eq i (signed_decimal (value_of_numeral i))
