-- The tree of whatever text is read can be read from its own tokens, and these can be spelled.
use Rattle.std.proofs.Common.{◌≡◌, ℕ, zero, suc, ◌^◌, nat_lt, Bool, true, false, List, [], ◌∷◌, Ok, codes, ◌||◌, ◌-◌, length, nat_eq, nat_le, ◌<◌, ◌≤◌, Err, Result, refl, subst, sym}
use Rattle.std.proofs.lemmas.Bool.{cond_both, leb-false}
use Rattle.std.proofs.lemmas.List.Sums.{take_while-cons}
use Rattle.std.specs.Char.{is_ascii_digit}
use Rattle.std.specs.List.{list_all, starts_with, take_while}
use Rattle.std.specs.Cmp.Lexicographic.{same_text}
use Rattle.std.specs.Str.{bytes_eq}
use Rattle.std.specs.Str.Lossy.{utf8_valid_len}
use Rattle.cw_text.specs.declared.fault.TextKind.TheVariants.{BadNumber}
use Rattle.cw_text.specs.declared.fault.TextFault.{TextFault}
use Rattle.cw_text.specs.declared.terminal.Terminal.{Terminal}
use Rattle.cw_text.specs.declared.terminal.Terminal.TheVariants as m
use Rattle.cw_text.specs.Lexemes.{Token, Front, gap, found, front, begun_by, width, lexemes_from, lexemes, line_after, keywords, keywords_of, rest_of, signs, sign_front, word_token, number_token, value_of_digits, begins_by, spelling, is_blank, is_letter, is_word, after_digits, Lexemes, terminal, name as a_name, number as a_number, bad}
use Rattle.cw_text.specs.Printed.{IsReadable, tokens}
use Rattle.cw_text.specs.PrintedText.{AreSpellable, IsName}
use Rattle.cw_text.specs.Grammar.{program_of}
use Rattle.cw_text.specs.Syntax.{Declaration, Source}
use Rattle.cw_text.specs.Text.{is_headed, items_of, language_of, reading, source_in, with_language}
use Rattle.cw_text.proofs.Headings.{language_within}
use Rattle.cw_text.proofs.Fronts.{word_of_letter}
use Rattle.cw_text.proofs.Spellable.{CanBeSpelled, read_is_spellable, rest_spelled, small_numbers}
use Rattle.cw_text.proofs.WrittenIsReadable.{read_is_readable}

-- ## The names and numbers of a text

abbrev Fits : (words : List Terminal) → Token → Type 0
Fits words (a_name n) = IsName words n
Fits words (a_number n) = n < 2 ^ 63
Fits words (terminal m.Cancel) = word_token words (spelling m.Cancel) ≡ terminal m.Cancel
Fits words t = Unit {0}

-- a front that is a gap, or a token that can be spelled if it is one
abbrev IsSpelled : (words : List Terminal) → Front → Type 0
IsSpelled words (gap n) = Unit {0}
IsSpelled words (found t n) = Fits words t

keyword_fits : (words : List Terminal) (k : Terminal) (text : List ℕ) → spelling k ≡ text → word_token words text ≡ terminal k → Fits words (terminal k)
keyword_fits words m.Cancel text e is = subst (λ text. word_token words text ≡ terminal m.Cancel) (sym e) is
keyword_fits words m.Cell text e is = tt
keyword_fits words k text e is = tt

-- a word is a keyword, or else a name
word_either : (words ks : List Terminal) (text : List ℕ) → begins_by is_letter text ≡ true → list_all is_word text ≡ true →
    word_token words text ≡ word_token ks text → Fits words (word_token ks text)
word_either words [] text letter all is = (letter, all, is)
word_either words (k ∷ ks) text letter all is =
    cond_both (bytes_eq (spelling k) text) (terminal k) (word_token ks text) (λ t. word_token words text ≡ t → Fits words t)
    (λ same is. keyword_fits words k text (same_text (spelling k) text (sym same)) is)
    (λ _ is. word_either words ks text letter all is) is

word_spelled : (words : List Terminal) (text : List ℕ) → begins_by is_letter text ≡ true → list_all is_word text ≡ true → Fits words (word_token words text)
word_spelled words text letter all = word_either words words text letter all refl

all_taken : (p : ℕ → Bool) (xs : List ℕ) → list_all p (take_while p xs) ≡ true
all_taken p [] = refl
all_taken p (x ∷ xs) =
    rw (take_while-cons p x xs)
    (cond_both (p x) (x ∷ take_while p xs) [] (λ ys. list_all p ys ≡ true) (λ passes. rw passes (all_taken p xs)) (λ _. refl))

word_all : (c : ℕ) (cs : List ℕ) → is_letter c ≡ true → list_all is_word (c ∷ take_while is_word cs) ≡ true
word_all c cs letter = rw (word_of_letter c letter) (all_taken is_word cs)

neither : (a b : Bool) → (a || b) ≡ false → b ≡ false
neither false b h = h
neither true b h = cc

number_spelled : (words : List Terminal) (digits rest : List ℕ) → Fits words (number_token digits rest)
number_spelled words digits rest =
    let runs_on = begins_by is_letter rest in
    let value = value_of_digits digits in
    cond_both (runs_on || nat_le (2 ^ 63) value) (bad BadNumber) (a_number value) (Fits words) (λ _. tt) (λ h. leb-false (2 ^ 63) value (neither runs_on (nat_le (2 ^ 63) value) h))

-- a sign is no keyword
abbrev IsSign : Terminal → Type 0
IsSign m.Cancel = ⊥
IsSign a = Unit {0}

sign_fits : (words : List Terminal) (a : Terminal) → IsSign a → Fits words (terminal a)
sign_fits words m.Cancel is = absurd is
sign_fits words m.Cell is = tt
sign_fits words a is = tt

abbrev AreSigns : List Terminal → Type 0
AreSigns [] = Unit {0}
AreSigns (a ∷ ss) = IsSign a × AreSigns ss

sign_spelled : (words ss : List Terminal) (text : List ℕ) → AreSigns ss → IsSpelled words (sign_front ss text)
sign_spelled words [] text are = tt
sign_spelled words (s ∷ ss) text are =
    cond_both (starts_with nat_eq text (spelling s)) (found (terminal s) (length (spelling s))) (sign_front ss text) (IsSpelled words) (λ _. sign_fits words s are.0) (λ _. sign_spelled words ss text are.1)

front_spelled : (words : List Terminal) (text : List ℕ) → IsSpelled words (front words text)
front_spelled words [] = tt
front_spelled words (c ∷ cs) =
    cond_both (is_blank c) _ _ (IsSpelled words) (λ _. tt)
    (λ _. cond_both (is_letter c) _ _ (IsSpelled words) (λ letter. word_spelled words (c ∷ take_while is_word cs) letter (word_all c cs letter))
    (λ _. cond_both (is_ascii_digit c) _ _ (IsSpelled words) (λ _. number_spelled words (c ∷ take_while is_ascii_digit cs) (after_digits cs))
    (λ _. cond_both (starts_with nat_eq (c ∷ cs) (codes "//")) _ _ (IsSpelled words) (λ _. tt)
    (λ _. sign_spelled words signs (c ∷ cs) (tt, (tt, (tt, (tt, (tt, (tt, (tt, (tt, (tt, (tt, (tt, (tt, (tt, (tt, (tt, (tt, (tt, (tt, (tt, (tt, (tt, tt)))))))))))))))))))))))))

begun_spelled : (words : List Terminal) (f : Front) (l : ℕ) (xs : Lexemes) → IsSpelled words f → CanBeSpelled words xs → CanBeSpelled words (begun_by f l xs)
begun_spelled words (gap n) l xs one rest = rest
begun_spelled words (found (a_name v) n) l xs one rest = (one, rest)
begun_spelled words (found (a_number v) n) l xs one rest = (one, rest)
begun_spelled words (found (terminal m.Cancel) n) l xs one rest = (one, rest)
begun_spelled words (found (terminal m.Cell) n) l xs one rest = rest
begun_spelled words (found (terminal a) n) l xs one rest = rest
begun_spelled words (found t n) l xs one rest = rest

lexemes_spelled : (words : List Terminal) (line taken : ℕ) (text : List ℕ) → CanBeSpelled words (lexemes_from words line taken text)
lexemes_spelled words line taken [] = tt
lexemes_spelled words line (suc n) (c ∷ cs) = lexemes_spelled words (line_after c line) n cs
lexemes_spelled words line zero (c ∷ cs) =
    let f = front words (c ∷ cs) in
    begun_spelled words f line _ (front_spelled words (c ∷ cs)) (lexemes_spelled words (line_after c line) (width f - 1) cs)

-- ## Whole texts

items_spelled : (words : List Terminal) (xs : Lexemes) → CanBeSpelled words xs → CanBeSpelled words (items_of xs)
items_spelled words xs h =
    let one = rest_spelled words xs h in
    let two = rest_spelled words (rest_of xs) one in
    cond_both (is_headed xs) (rest_of (rest_of (rest_of xs))) xs (CanBeSpelled words) (λ _. rest_spelled words (rest_of (rest_of xs)) two) (λ _. h)

-- a source whose text can be read again
pub record CanBeRead (newest : ℕ) (s : Source) : Type 0 where
  pub some : 1 ≤ s.language
  pub new : s.language ≤ newest
  pub readable : IsReadable s.items
  pub spellable : AreSpellable (keywords_of s.language) (tokens s.items)

items_readable : (newest n : ℕ) (xs : Lexemes) (s : Source) (read : Result (List Declaration) TextFault) → 1 ≤ n → n ≤ newest → CanBeSpelled (keywords_of n) xs →
    read ≡ program_of xs → with_language n read ≡ Ok s → CanBeRead newest s
items_readable newest n xs s (Err f) some new spelled read is = cc
items_readable newest n xs s (Ok ds) some new spelled read is =
    let e : record { language = n; items = ds } ≡ s = cc in
    subst (CanBeRead newest) e
    (record { some = some; new = new; readable = read_is_readable xs ds (small_numbers (keywords_of n) xs spelled) (sym read); spellable = read_is_spellable (keywords_of n) xs ds spelled (sym read) })

source_readable : (newest : ℕ) (text : List ℕ) (s : Source) (language : Result ℕ TextFault) → 1 ≤ newest → language ≡ language_of newest (lexemes keywords text) → source_in language text ≡ Ok s → CanBeRead newest s
source_readable newest text s (Err f) known named is = cc
source_readable newest text s (Ok n) known named is =
    let xs = lexemes (keywords_of n) text in
    let within = language_within newest n (lexemes keywords text) known (sym named) in
    items_readable newest n (items_of xs) s (program_of (items_of xs)) within.0 within.1 (items_spelled (keywords_of n) xs (lexemes_spelled (keywords_of n) 1 0 text)) refl is

-- a text is read as what its tokens are, or refused
pub text_is_readable : (newest most : ℕ) (text : List ℕ) (s : Source) → 1 ≤ newest → reading newest most text ≡ Ok s → CanBeRead newest s
text_is_readable newest most text s known =
    cond_both (nat_lt most (length text)) _ _ (λ r. r ≡ Ok s → CanBeRead newest s) (λ _ h. cc)
    (λ _. cond_both (nat_lt (utf8_valid_len text) (length text)) _ _ (λ r. r ≡ Ok s → CanBeRead newest s) (λ _ h. cc)
    (λ _ h. source_readable newest text s (language_of newest (lexemes keywords text)) known refl h))
