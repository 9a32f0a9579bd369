-- The text that a tree is printed as: the bytes of its tokens, each with a newline or a space behind it.
use Rattle.std.specs.Prelude.{ℕ, ◌≡◌, ◌<◌, ◌^◌, true, List, [], ◌∷◌, ◌++◌}
use Rattle.std.specs.Fmt.{decimal}
use Rattle.std.specs.List.{list_all}
use Rattle.cw_text.specs.declared.terminal.Terminal.{Terminal}
use Rattle.cw_text.specs.declared.terminal.Terminal.TheVariants as m
use Rattle.cw_text.specs.Lexemes.{Token, name as a_name, number as a_number, terminal, bad, end, begins_by, is_letter, is_word, spelling, word_token}
use Rattle.cw_text.specs.Printed.{Placed, heading_tokens, tokens}
use Rattle.cw_text.specs.Syntax.{Source}

-- the bytes of a token; a tree has no bad tokens and no end
abbrev pub spelled : Token → List ℕ
spelled (a_name n) = n
spelled (a_number n) = decimal n
spelled (terminal a) = spelling a
spelled (bad k) = []
spelled end = []

-- a newline behind `;`, `{` and `}`, and a space behind any other token
abbrev pub blank_behind : Token → ℕ
blank_behind (terminal m.Semicolon) = 10
blank_behind (terminal m.BraceOpen) = 10
blank_behind (terminal m.BraceClose) = 10
blank_behind t = 32

abbrev pub text_of : List Placed → List ℕ
text_of [] = []
text_of (p ∷ ps) = spelled p.0 ++ blank_behind p.0 ∷ text_of ps

abbrev pub source_tokens : Source → List Placed
source_tokens s = heading_tokens s.language ++ tokens s.items

abbrev pub printed_text : Source → List ℕ
printed_text s = text_of (source_tokens s)

-- the text, with the bytes of the tokens behind it
abbrev pub with_tokens : List ℕ → List Placed → List ℕ
with_tokens text [] = text
with_tokens text (p ∷ ps) = with_tokens (text ++ (spelled p.0 ++ blank_behind p.0 ∷ [])) ps

-- ## What can be read

-- letters, digits and `_`, no digit first, and none of the keywords
abbrev pub IsName : (words : List Terminal) → List ℕ → Type 0
IsName words n = (begins_by is_letter n ≡ true) × (list_all is_word n ≡ true) × (word_token words n ≡ a_name n)

-- the token is read from its own bytes, with these keywords; `cancel` is the only terminal that may be no keyword
abbrev pub IsSpellable : (words : List Terminal) → Token → Type 0
IsSpellable words (a_name n) = IsName words n
IsSpellable words (a_number n) = n < 2 ^ 63
IsSpellable words (terminal m.Cancel) = word_token words (spelling m.Cancel) ≡ terminal m.Cancel
IsSpellable words (terminal a) = Unit {0}
IsSpellable words t = ⊥

pub data AreSpellable (words : List Terminal) : List Placed → Type 0 where
  none : AreSpellable words []
  more : {t : Token} {l : ℕ} {ps : List Placed} → IsSpellable words t → AreSpellable words ps → AreSpellable words ((t, l) ∷ ps)
