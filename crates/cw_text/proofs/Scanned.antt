-- The text of tokens is read as these tokens, except for their lines.
use Rattle.std.proofs.Common.{◌≡◌, ℕ, ◌+◌, ◌^◌, ◌<◌, Bool, true, false, List, [], ◌∷◌, ◌++◌, length, take, codes, ◌==◌, refl, ap, ◌∙◌, arith, lit<, rules}
use Rattle.std.proofs.Math.Seq.{drop-append_seam}
use Rattle.std.proofs.lemmas.Bool.Decides.{nat_tests}
use Rattle.std.proofs.lemmas.Fmt.{IsAscii-decimal, decimal_nonempty, digits_decimal, digits_value-decimal}
use Rattle.std.proofs.lemmas.List.Sums.{take_while-cons}
use Rattle.std.proofs.lemmas.Str.{IsAscii-append, IsUtf8-from_ascii}
use Rattle.std.proofs.lemmas.Str.Ascii.{IsAscii-cons, IsAscii-nil}
use Rattle.std.proofs.lemmas.Str.Parse.{IsNumeralModel, numerals_by_fold}
use Rattle.std.specs.Char.{is_ascii_digit}
use Rattle.std.specs.Fmt.{decimal}
use Rattle.std.specs.List.{list_all, take_while}
use Rattle.std.specs.Prelude.{nat_le}
use Rattle.std.specs.Str.{IsAscii, IsUtf8}
use Rattle.cw_text.specs.declared.terminal.Terminal.{Terminal}
use Rattle.cw_text.specs.declared.terminal.Terminal.TheVariants as m
use Rattle.std.proofs.lemmas.Bool.{and_parts, cond_both}
use Rattle.cw_text.specs.Lexemes.{Token, Lexemes, name as a_name, number as a_number, terminal, bad, end, after_digits, end_on, found, front, is_blank, is_letter, is_word, keywords, keywords_of, lexemes, lexemes_from, line_after, spelling, value_of_digits}
use Rattle.cw_text.specs.Printed.{Placed, heading_tokens, tokens_before}
use Rattle.cw_text.specs.PrintedText.{AreSpellable, IsName, IsSpellable, blank_behind, more, none, spelled, text_of}
use Rattle.cw_text.specs.WithoutLines.{tokens_without_lines}
use Rattle.cw_text.proofs.Digits.{value_on}
use Rattle.cw_text.proofs.Fronts.{number_is_front, word_is_front}
use Rattle.cw_text.proofs.Passing.{begun, newlines_in, passed}

-- ## Words and digits up to a blank

take_while_all : (p : ℕ → Bool) (xs : List ℕ) (c : ℕ) (rest : List ℕ) → list_all p xs ≡ true → p c ≡ false → take_while p (xs ++ c ∷ rest) ≡ xs
take_while_all p [] c rest all stops = rw (take_while-cons p c rest, stops) refl
take_while_all p (x ∷ xs) c rest all stops =
    rw (take_while-cons p x (xs ++ c ∷ rest), (and_parts (p x) (list_all p xs) all).0, take_while_all p xs c rest (and_parts (p x) (list_all p xs) all).1 stops) refl

after_digits_all : (ds : List ℕ) (c : ℕ) (rest : List ℕ) → list_all is_ascii_digit ds ≡ true → is_ascii_digit c ≡ false → after_digits (ds ++ c ∷ rest) ≡ c ∷ rest
after_digits_all [] c rest all stops = rw stops refl
after_digits_all (d ∷ ds) c rest all stops =
    rw (and_parts (is_ascii_digit d) (list_all is_ascii_digit ds) all).0 (after_digits_all ds c rest (and_parts (is_ascii_digit d) (list_all is_ascii_digit ds) all).1 stops)

letter_is_no_blank : (c : ℕ) → is_letter c ≡ true → is_blank c ≡ false
letter_is_no_blank c h = grind (arith, nat_tests)

digit_is_no_blank : (c : ℕ) → is_ascii_digit c ≡ true → is_blank c ≡ false
digit_is_no_blank c h = grind (arith, nat_tests)

digit_is_no_letter : (c : ℕ) → is_ascii_digit c ≡ true → is_letter c ≡ false
digit_is_no_letter c h = grind (arith, nat_tests)

-- ## The front of a token's bytes

name_is_front : (words : List Terminal) (n rest : List ℕ) → IsName words n → front words (n ++ 32 ∷ rest) ≡ found (a_name n) (length n)
name_is_front words [] rest is = cc
name_is_front words (c ∷ cs) rest is =
    let text = (c ∷ cs) ++ 32 ∷ rest in
    let e : take_while is_word text ≡ c ∷ cs = take_while_all is_word (c ∷ cs) 32 rest is.1 refl in
    word_is_front words text (omega arith) (letter_is_no_blank c is.0) is.0
    ∙ rw (e, is.2) refl

-- `value_of_digits` is the number that digits write
own : IsNumeralModel (λ ds. list_all is_ascii_digit ds ≡ true) (value_on 0)
own = numerals_by_fold _ (search rules) value_on (search rules)

digits_are_front : (words : List Terminal) (ds rest : List ℕ) (n : ℕ) → 0 < length ds → list_all is_ascii_digit ds ≡ true → value_of_digits ds ≡ n → n < 2 ^ 63 →
    front words (ds ++ 32 ∷ rest) ≡ found (a_number n) (length ds)
digits_are_front words [] rest n some all value small = absurd (omega arith)
digits_are_front words (d ∷ ds) rest n some all value small =
    let text = (d ∷ ds) ++ 32 ∷ rest in
    let digit = (and_parts (is_ascii_digit d) (list_all is_ascii_digit ds) all).0 in
    let taken : take_while is_ascii_digit text ≡ d ∷ ds = take_while_all is_ascii_digit (d ∷ ds) 32 rest all refl in
    let left : after_digits text ≡ 32 ∷ rest = after_digits_all (d ∷ ds) 32 rest all refl in
    let fits : nat_le (2 ^ 63) n ≡ false = grind (arith, nat_tests) in
    number_is_front words text (omega arith) (digit_is_no_blank d digit) (digit_is_no_letter d digit) digit
    ∙ rw (taken, left, value, fits) refl

-- a keyword or a sign, under the keywords of each language
plain_is_front : (a : Terminal) (rest : List ℕ) → IsSpellable keywords (terminal a) → front keywords (spelling a ++ blank_behind (terminal a) ∷ rest) ≡ found (terminal a) (length (spelling a))
plain_is_front m.Cancel rest is = cc
plain_is_front m.Cell rest is = refl
plain_is_front a rest is = refl

newer_is_front : (a : Terminal) (rest : List ℕ) → front (m.Cancel ∷ keywords) (spelling a ++ blank_behind (terminal a) ∷ rest) ≡ found (terminal a) (length (spelling a))
newer_is_front m.Cell rest = refl
newer_is_front a rest = refl

terminal_is_front : (language : ℕ) (a : Terminal) (rest : List ℕ) → IsSpellable (keywords_of language) (terminal a) →
    front (keywords_of language) (spelling a ++ blank_behind (terminal a) ∷ rest) ≡ found (terminal a) (length (spelling a))
terminal_is_front language a rest =
    cond_both (language == 2) (m.Cancel ∷ keywords) keywords
    (λ words. IsSpellable words (terminal a) → front words (spelling a ++ blank_behind (terminal a) ∷ rest) ≡ found (terminal a) (length (spelling a)))
    (λ _ _. newer_is_front a rest) (λ _ is. plain_is_front a rest is)

spelled_is_front : (language : ℕ) (t : Token) (rest : List ℕ) → IsSpellable (keywords_of language) t →
    front (keywords_of language) (spelled t ++ blank_behind t ∷ rest) ≡ found t (length (spelled t))
spelled_is_front language (a_name n) rest is = name_is_front (keywords_of language) n rest is
spelled_is_front language (a_number n) rest is =
    digits_are_front (keywords_of language) (decimal n) rest n (decimal_nonempty n (omega arith)) (digits_decimal own n (omega arith)) (digits_value-decimal own n (omega arith)) is
spelled_is_front language (terminal a) rest is = terminal_is_front language a rest is
spelled_is_front language (bad k) rest is = absurd is
spelled_is_front language end rest is = absurd is

-- ## Tokens one after the other

blank_is : (t : Token) → is_blank (blank_behind t) ≡ true
blank_is (terminal m.Semicolon) = refl
blank_is (terminal m.BraceOpen) = refl
blank_is (terminal m.BraceClose) = refl
blank_is (terminal a) = refl
blank_is t = refl

blank_passed : (words : List Terminal) (line b : ℕ) (rest : List ℕ) → is_blank b ≡ true → lexemes_from words line 0 (b ∷ rest) ≡ lexemes_from words (line_after b line) 0 rest
blank_passed words line b rest is = rw is refl

some_behind : (xs : List ℕ) (c : ℕ) (rest : List ℕ) → 0 < length (xs ++ c ∷ rest)
some_behind [] c rest = omega arith
some_behind (x ∷ xs) c rest = omega arith

token_first : (words : List Terminal) (t : Token) (line : ℕ) (bytes rest : List ℕ) → front words (bytes ++ blank_behind t ∷ rest) ≡ found t (length bytes) →
    lexemes_from words line 0 (bytes ++ blank_behind t ∷ rest) ≡
    Lexemes.comes t line (lexemes_from words (line_after (blank_behind t) (line + newlines_in (take (length bytes) (bytes ++ blank_behind t ∷ rest)))) 0 rest)
token_first words t line bytes rest is =
    let text = bytes ++ blank_behind t ∷ rest in
    let behind = line + newlines_in (take (length bytes) text) in
    begun words line text (some_behind bytes (blank_behind t) rest)
    ∙ rw is (ap (λ xs. Lexemes.comes t line xs) (passed words line (length bytes) text
    ∙ ap (λ rest. lexemes_from words behind 0 rest) (drop-append_seam bytes (blank_behind t ∷ rest))
    ∙ blank_passed words behind (blank_behind t) rest (blank_is t)))

-- the first of some tokens, and the line of what comes behind it
first_scanned : (language : ℕ) (t : Token) (l line : ℕ) (ps : List Placed) → IsSpellable (keywords_of language) t →
    (next : ℕ) × (lexemes_from (keywords_of language) line 0 (text_of ((t, l) ∷ ps)) ≡ Lexemes.comes t line (lexemes_from (keywords_of language) next 0 (text_of ps)))
first_scanned language t l line ps is = (_, token_first (keywords_of language) t line (spelled t) (text_of ps) (spelled_is_front language t (text_of ps) is))

pub scanned_from : (language : ℕ) (ps : List Placed) (line : ℕ) → AreSpellable (keywords_of language) ps →
    tokens_without_lines (lexemes_from (keywords_of language) line 0 (text_of ps)) ≡ tokens_without_lines (tokens_before ps (end_on 1))
scanned_from language [] line none = refl
scanned_from language ((t, l) ∷ ps) line (more is rest) =
    let h = first_scanned language t l line ps is in
    rw h.1 (ap (λ xs. Lexemes.comes t 1 xs) (scanned_from language ps h.0 rest))

pub scanned : (language : ℕ) (ps : List Placed) → AreSpellable (keywords_of language) ps →
    tokens_without_lines (lexemes (keywords_of language) (text_of ps)) ≡ tokens_without_lines (tokens_before ps (end_on 1))
scanned language ps are = scanned_from language ps 1 are

-- the line that says in which language a text is, with the lines of its tokens and of what comes behind it
pub heading_scanned : (language : ℕ) (ps : List Placed) → IsName (keywords_of language) (codes "language") →
    (i : ℕ) × (j : ℕ) × (l : ℕ) × (lexemes (keywords_of language) (text_of (heading_tokens 2 ++ ps)) ≡
    Lexemes.comes (a_name (codes "language")) 1 (Lexemes.comes (a_number 2) i (Lexemes.comes (terminal m.Semicolon) j (lexemes_from (keywords_of language) l 0 (text_of ps)))))
heading_scanned language ps named =
    let end = (terminal m.Semicolon, 1) ∷ ps in
    let g = first_scanned language (a_name (codes "language")) 1 1 ((a_number 2, 1) ∷ end) named in
    let h = first_scanned language (a_number 2) 1 g.0 end (lit< tt) in
    let k = first_scanned language (terminal m.Semicolon) 1 h.0 ps tt in
    (g.0, h.0, k.0, g.1 ∙ ap (λ xs. Lexemes.comes (a_name (codes "language")) 1 xs) (h.1 ∙ ap (λ xs. Lexemes.comes (a_number 2) g.0 xs) k.1))

-- ## Characters

word_is_ascii : (c : ℕ) → is_word c ≡ true → c < 128
word_is_ascii c h = grind (arith, nat_tests)

name_is_ascii : (n : List ℕ) → list_all is_word n ≡ true → IsAscii n
name_is_ascii [] all = IsAscii-nil
name_is_ascii (c ∷ cs) all =
    IsAscii-cons c cs (word_is_ascii c (and_parts (is_word c) (list_all is_word cs) all).0) (name_is_ascii cs (and_parts (is_word c) (list_all is_word cs) all).1)

spelled_is_ascii : (words : List Terminal) (t : Token) → IsSpellable words t → IsAscii (spelled t)
spelled_is_ascii words (a_name n) is = name_is_ascii n is.1
spelled_is_ascii words (a_number n) is = IsAscii-decimal n (omega arith)
spelled_is_ascii words (terminal m.Cell) is = search rules
spelled_is_ascii words (terminal a) is = search rules
spelled_is_ascii words (bad k) is = absurd is
spelled_is_ascii words end is = absurd is

blank_is_ascii : (t : Token) → blank_behind t < 128
blank_is_ascii (terminal m.Semicolon) = omega arith
blank_is_ascii (terminal a) = omega arith
blank_is_ascii t = omega arith

text_is_ascii : {words : List Terminal} (ps : List Placed) → AreSpellable words ps → IsAscii (text_of ps)
text_is_ascii [] none = IsAscii-nil
text_is_ascii ((t, l) ∷ ps) (more is rest) =
    IsAscii-append (spelled t) (blank_behind t ∷ text_of ps) (spelled_is_ascii _ t is) (IsAscii-cons (blank_behind t) (text_of ps) (blank_is_ascii t) (text_is_ascii ps rest))

pub text_is_utf8 : {words : List Terminal} (ps : List Placed) → AreSpellable words ps → IsUtf8 (text_of ps)
text_is_utf8 ps are = IsUtf8-from_ascii (text_of ps) (text_is_ascii ps are)
