-- What whole texts read as.
use Rattle.std.proofs.Common.{◌≡◌, ℕ, ◌≤◌, List, length, refl, arith}
use Rattle.std.proofs.lemmas.Bool.{le-ltb}
use Rattle.std.proofs.lemmas.Str.{utf8_valid_len-IsUtf8}
use Rattle.std.specs.Str.{IsUtf8}
use Rattle.cw_text.specs.Lexemes.{keywords, lexemes}
use Rattle.cw_text.specs.Text.{language_of, reading, source_in}

-- a text that is short enough, and whole characters, is what its tokens are
pub reading_is : (newest most : ℕ) (text : List ℕ) → length text ≤ most → IsUtf8 text → reading newest most text ≡ source_in (language_of newest (lexemes keywords text)) text
reading_is newest most text short whole =
    rw (le-ltb most (length text) short, utf8_valid_len-IsUtf8 text whole, le-ltb (length text) (length text) (omega arith)) refl
