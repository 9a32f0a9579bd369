-- Items of a text: words and numbers, with one space between two of a line and a newline at its end. Each reader takes what its name
-- says at a place, and gives it with the place behind it, or the first fault.
use Rattle.std.specs.Prelude.{ℕ, zero, suc, ◌+◌, ◌^◌, Bool, false, not, ◌&&◌, ◌||◌, List, [], ◌∷◌, drop, length, take_while, ℤ, pos, negsuc, neg_ℤ, nat_lt, ◌==◌, if◌then◌else◌, ⊤}
use Rattle.std.specs.Char.{is_ascii_digit}
use Rattle.std.specs.Fmt.{decimal, signed_decimal}
use Rattle.std.specs.List.{list_all}
use Rattle.std.specs.Str.{bytes_eq}
use Rattle.cw_text.specs.Lexemes.{begins_by, value_of_digits}
use Rattle.cw_sheet.specs.declared.sheet.SheetKind.{SheetKind}
use Rattle.cw_sheet.specs.declared.sheet.SheetKind.TheVariants.{Unexpected, BadNumber}
use Rattle.cw_sheet.specs.declared.sheet.SheetFault.{SheetFault}

-- where the reader is: the number of the line, and the text from there on
pub record Place : Type 0 where
  pub line : ℕ
  pub text : List ℕ

-- what was taken and the place behind it, or the first fault
pub data Taken (A : Type 0) : Type 0 where
  took : A → Place → Taken A
  refused : SheetFault → Taken A

-- takes first the one, then the other, which knows what the first one took
infixr 5 ◌into◌
abbrev pub ◌into◌ : {A B : Type 0} → Taken A → (A → Place → Taken B) → Taken B
(took x p) into f = f x p
(refused e) into f = refused e

abbrev pub refuse : {A : Type 0} → SheetKind → Place → Taken A
refuse kind p = refused (record { kind = kind; line = p.line })

-- the place behind the next n bytes, none of which is a newline
abbrev pub behind : ℕ → Place → Place
behind n p = record p { text = drop n p.text }

-- ## Items

abbrev pub is_space : ℕ → Bool
is_space c = c == 32

abbrev pub is_newline : ℕ → Bool
is_newline c = c == 10

-- the bytes up to the next space or newline
abbrev pub first_item : List ℕ → List ℕ
first_item text = take_while (λ c. not (is_space c || is_newline c)) text

abbrev pub item : Place → Taken (List ℕ)
item p = took (first_item p.text) (behind (length (first_item p.text)) p)

abbrev pub space : Place → Taken ⊤
space p = if begins_by is_space p.text then took tt (behind 1 p) else refuse Unexpected p

abbrev pub newline : Place → Taken ⊤
newline p = if begins_by is_newline p.text then took tt (record { line = suc p.line; text = drop 1 p.text }) else refuse Unexpected p

-- this very item
abbrev pub word : List ℕ → Place → Taken ⊤
word w p = if bytes_eq (first_item p.text) w then took tt (behind (length w) p) else refuse Unexpected p

-- what was read, if its line ends here
abbrev pub line_done : {A : Type 0} → A → Place → Taken A
line_done x p = newline p into λ _ q. took x q

-- ## Numbers

abbrev pub are_digits : List ℕ → Bool
are_digits [] = false
are_digits (c ∷ cs) = list_all is_ascii_digit (c ∷ cs)

-- `-?[0-9]+`, however it is spelled
abbrev pub is_numeral : List ℕ → Bool
is_numeral i = are_digits i || (begins_by (λ c. c == 45) i && are_digits (drop 1 i))

-- An item that is no numeral is Unexpected. A numeral that is out of range or spelled otherwise than it is written is a BadNumber.
abbrev pub judged : {A : Type 0} → (i : List ℕ) → (is_good : Bool) → A → Place → Taken A
judged i is_good x p = if is_numeral i then (if is_good then took x p else refuse BadNumber p) else refuse Unexpected p

-- a number below the limit
abbrev pub first_number : (limit : ℕ) → Place → Taken ℕ
first_number limit p =
    item p into λ i q.
    judged i (nat_lt (value_of_digits i) limit && bytes_eq i (decimal (value_of_digits i))) (value_of_digits i) q

abbrev pub first_number32 : Place → Taken ℕ
first_number32 p = first_number (2 ^ 32) p

-- the number that a numeral says
abbrev pub value_of_numeral : List ℕ → ℤ
value_of_numeral i = if begins_by (λ c. c == 45) i then neg_ℤ (pos (value_of_digits (drop 1 i))) else pos (value_of_digits i)

abbrev pub is_i64 : ℤ → Bool
is_i64 (pos n) = nat_lt n (2 ^ 63)
is_i64 (negsuc n) = nat_lt n (2 ^ 63)

abbrev pub first_value : Place → Taken ℤ
first_value p =
    item p into λ i q.
    judged i (is_i64 (value_of_numeral i) && bytes_eq i (signed_decimal (value_of_numeral i))) (value_of_numeral i) q

-- ## Items behind a space

abbrev pub next_item : Place → Taken (List ℕ)
next_item p = space p into λ _ q. item q

abbrev pub next_word : List ℕ → Place → Taken ⊤
next_word w p = space p into λ _ q. word w q

abbrev pub number : (limit : ℕ) → Place → Taken ℕ
number limit p = space p into λ _ q. first_number limit q

abbrev pub value : Place → Taken ℤ
value p = space p into λ _ q. first_value q

abbrev pub number32 : Place → Taken ℕ
number32 p = number (2 ^ 32) p

abbrev pub number64 : Place → Taken ℕ
number64 p = number (2 ^ 64) p

-- how many there are of something: at most 10^8
abbrev pub count : Place → Taken ℕ
count p = number 100000001 p

-- ## Several of a kind

-- as many as the line has, at most `most`, each behind a space
abbrev pub up_to : {A : Type 0} → (most : ℕ) → (Place → Taken A) → Place → Taken (List A)
up_to zero each p = took [] p
up_to (suc most) each p =
    if begins_by is_space p.text then (each p into λ x q. up_to most each q into λ xs r. took (x ∷ xs) r) else took [] p

-- as many as the line has; each takes at least its space
abbrev pub all_behind : {A : Type 0} → (Place → Taken A) → Place → Taken (List A)
all_behind each p = up_to (length p.text) each p

-- exactly n of them, the first of which has the number k
abbrev pub exactly : {A : Type 0} → (n k : ℕ) → (ℕ → Place → Taken A) → Place → Taken (List A)
exactly zero k each p = took [] p
exactly (suc n) k each p = each k p into λ x q. exactly n (suc k) each q into λ xs r. took (x ∷ xs) r
