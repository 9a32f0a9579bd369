-- The tokens that are left from a place in a text on.
use Rattle.std.specs.Prelude.{ℕ, ◌+◌}
use Rattle.cw_text.specs.declared.cursor.Token.{Token}
use Rattle.cw_text.specs.declared.cursor.Token.TheVariants as token
use Rattle.cw_text.specs.declared.cursor.Cursor.{Cursor}
use Rattle.cw_text.specs.Front.{lexeme_of}
use Rattle.cw_text.specs.Lexemes.{Lexemes, end_on, comes, lexemes_from, keywords_of}

-- a token on its line, and the tokens behind it
abbrev pub before : Token → ℕ → Lexemes → Lexemes
before token.End line xs = end_on line
before t line xs = comes (lexeme_of t) line xs

abbrev pub tokens_left : Cursor → Lexemes
tokens_left c = before c.token c.line (lexemes_from (keywords_of c.language) c.rest_line 0 c.rest.now)

-- how many tokens are left
abbrev pub count_of_lexemes : Lexemes → ℕ
count_of_lexemes (end_on line) = 0
count_of_lexemes (comes t line xs) = count_of_lexemes xs + 1
