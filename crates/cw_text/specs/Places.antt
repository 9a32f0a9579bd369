-- The tokens of a text by their places.
use Rattle.std.specs.Prelude.{ℕ, ◌+◌, ◌<◌, ◌≡◌, List, length, drop}
use Rattle.cw_text.specs.declared.terminal.Terminal.{Terminal}
use Rattle.cw_text.specs.Lexemes.{Token, Lexemes, end_on, comes, gap, found, front}
use Rattle.cw_text.specs.Text.{line_of}

-- From a place on, gaps and tokens follow each other up to the end. Each is the front of what is left of the text. Each
-- token, and the end, has the line of its place.
pub data Follow (words : List Terminal) (text : List ℕ) : ℕ → Lexemes → Type 0 where
  over : Follow words text (length text) (end_on (line_of (length text) text))
  past : {place n : ℕ} {xs : Lexemes} → place < length text → front words (drop place text) ≡ gap n → Follow words text (place + n) xs → Follow words text place xs
  first : {place n : ℕ} {t : Token} {xs : Lexemes} → place < length text → front words (drop place text) ≡ found t n → Follow words text (place + n) xs → Follow words text place (comes t (line_of place text) xs)
