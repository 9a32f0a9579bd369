-- How the words behind a command are read: as the options that they give, each with its value, and the words that belong to no
-- option. And the numbers, and lists of numbers, that options and words spell.
use Rattle.std.specs.Prelude.{ℕ, ℤ, pos, neg_ℤ, ◌-◌, ◌^◌, ◌==◌, ◌&&◌, Bool, not, List, [], ◌∷◌, length, drop, Option, Some, None, if◌then◌else◌, codes, nat_eq, nat_le, option_and_then, option_map}
use Rattle.std.specs.List.{after_first, before_first, list_all, list_any, starts_with}
use Rattle.std.specs.Str.{all_ascii_digits, bytes_eq, byte}
use Rattle.std.specs.Str.Parse.{digits_value}
use Rattle.cw_code.specs.Ranges.{NumberOption}

-- ## What words give

-- an option that is given: its name and its value
abbrev pub GivenOption : Type 0
GivenOption = List ℕ × List ℕ

-- what words give: options, and the words that belong to no option
pub record Given : Type 0 where
  pub options : List GivenOption
  pub words : List (List ℕ)

abbrev pub with_option : (name value : List ℕ) → Given → Given
with_option name value g = record { options = (name, value) ∷ g.options; words = g.words }

abbrev pub with_word : List ℕ → Given → Given
with_word w g = record { options = g.options; words = w ∷ g.words }

-- ## How they are read

abbrev pub has_hyphen : List ℕ → Bool
has_hyphen w = starts_with nat_eq w (codes "-")

abbrev pub is_option : List ℕ → Bool
is_option w = starts_with nat_eq w (codes "--")

abbrev pub is_equals : ℕ → Bool
is_equals c = c == byte "="

-- what `--` begins: words that belong to no option, up to the end
abbrev pub only_words : List (List ℕ) → Given
only_words ws = record { options = []; words = ws }

-- What words give. An option is `--name=value`, or `--name` with the value as the next word, which then may not begin with a
-- hyphen. A word that does not begin with a hyphen belongs to no option; nor does any word behind the first `--`. Here `name` is
-- the option whose value is still to come, if there is one.
abbrev pub given_on : (name : Option (List ℕ)) → List (List ℕ) → Option Given
given_on None [] = Some (only_words [])
given_on (Some name) [] = None
given_on (Some name) (w ∷ ws) = if has_hyphen w then None else option_map (with_option name w) (given_on None ws)
given_on None (w ∷ ws) =
    let text = drop 2 w in
    if not (has_hyphen w) then option_map (with_word w) (given_on None ws)
    else (if not (is_option w) then None
    else (if bytes_eq w (codes "--") then Some (only_words ws)
    else (if list_any is_equals text then option_map (with_option (before_first is_equals text) (after_first is_equals text)) (given_on None ws)
    else given_on (Some text) ws)))

abbrev pub given : List (List ℕ) → Option Given
given ws = given_on None ws

-- ## Numbers

-- the number within these bounds that a text spells, with one decimal digit or more and nothing else
abbrev pub number_within : (least most : ℕ) → List ℕ → Option ℕ
number_within least most [] = None
number_within least most (d ∷ ds) =
    let n = digits_value 10 (d ∷ ds) in
    if all_ascii_digits (d ∷ ds) && nat_le least n && nat_le n most then Some n else None

-- The 64-bit integer that a word spells: one decimal digit or more, with or without a hyphen in front.
abbrev pub integer_of : List ℕ → Option ℤ
integer_of w =
    if has_hyphen w then option_map (λ n. neg_ℤ (pos n)) (number_within 0 (2 ^ 63) (drop 1 w))
    else option_map pos (number_within 0 (2 ^ 63 - 1) w)

-- the integers that the words spell, if each spells one
abbrev pub integers_of : List (List ℕ) → Option (List ℤ)
integers_of [] = Some []
integers_of (w ∷ ws) = option_and_then (λ n. option_map (λ ns. n ∷ ns) (integers_of ws)) (integer_of w)

-- ## Lists of numbers

abbrev pub is_comma : ℕ → Bool
is_comma c = c == byte ","

-- a byte put in front of the first part
abbrev pub in_front : ℕ → List (List ℕ) → List (List ℕ)
in_front c [] = (c ∷ []) ∷ []
in_front c (p ∷ ps) = (c ∷ p) ∷ ps

-- the parts of a text between its commas: one part more than it has commas
abbrev pub parts_of : List ℕ → List (List ℕ)
parts_of [] = [] ∷ []
parts_of (c ∷ cs) = if is_comma c then [] ∷ parts_of cs else in_front c (parts_of cs)

-- the numbers below `limit` that the texts spell, if each spells one
abbrev pub numbers_below : (limit : ℕ) → List (List ℕ) → Option (List ℕ)
numbers_below limit [] = Some []
numbers_below limit (v ∷ vs) = option_and_then (λ n. option_map (λ ns. n ∷ ns) (numbers_below limit vs)) (number_within 0 (limit - 1) v)

-- The list that a text spells: at most `most` numbers below `limit`, with commas between them.
abbrev pub list_below : (limit most : ℕ) → List ℕ → Option (List ℕ)
list_below limit most v = if nat_le (length (parts_of v)) most then numbers_below limit (parts_of v) else None

-- ## One word

-- the one word that belongs to no option, if there is exactly one
abbrev pub sole_word : List (List ℕ) → Option (List ℕ)
sole_word (w ∷ []) = Some w
sole_word ws = None

-- ## The value of an option

-- the values given to an option of this name
abbrev pub values_of : (name : List ℕ) → List GivenOption → List (List ℕ)
values_of name [] = []
values_of name (o ∷ os) = if bytes_eq o.0 name then o.1 ∷ values_of name os else values_of name os

-- An option has at most one value.
abbrev pub one_of : List (List ℕ) → Option (Option (List ℕ))
one_of [] = Some None
one_of (v ∷ []) = Some (Some v)
one_of (v ∷ w ∷ vs) = None

abbrev pub option_value : (name : List ℕ) → List GivenOption → Option (Option (List ℕ))
option_value name os = one_of (values_of name os)

-- the number that an option has: its default, if no value is given
abbrev pub number_in : NumberOption → (value : Option (List ℕ)) → Option ℕ
number_in o None = Some o.default
number_in o (Some v) = number_within o.least o.most v

abbrev pub number_given : NumberOption → List GivenOption → Option ℕ
number_given o os = option_and_then (number_in o) (option_value o.name os)

-- Each option that is given has one of these names.
abbrev pub are_known : (names : List (List ℕ)) → List GivenOption → Bool
are_known names os = list_all (λ o. list_any (λ name. bytes_eq name o.0) names) os
