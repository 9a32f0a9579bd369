-- Which items are numbers as they are written.
use Rattle.std.proofs.Common.{◌≡◌, ℕ, zero, suc, ◌+◌, ◌^◌, ◌<◌, ◌≤◌, Bool, true, false, List, [], ◌∷◌, length, drop, get_or, ◌==◌, refl, ap, sym, subst, ◌∙◌, arith, rules, lit<, pos, neg_ℤ, ℤ}
use Rattle.std.specs.Prelude.{◌&&◌, nat_lt, Option, Some, None, SomeIff}
use Rattle.std.proofs.lemmas.Bool.{and_parts, and_from, and_left, lt-ltb, le-ltb, ltb-true, eqb-true}
use Rattle.std.proofs.Math.Bool.{or-false}
use Rattle.std.proofs.lemmas.Fmt.{decimal_nonempty, digits_decimal, decimal-digits_value, decimal_digit, first_decimal}
use Rattle.std.proofs.lemmas.Slice.Eq.{bytes_eq-Decides}
use Rattle.std.proofs.lemmas.Str.Parse.{IsNumeralModel, numerals_by_fold}
use Rattle.std.specs.Char.{is_ascii_digit}
use Rattle.std.specs.Fmt.{decimal, signed_decimal}
use Rattle.std.specs.List.{list_all}
use Rattle.std.specs.Str.{bytes_eq}
use Rattle.cw_text.specs.Lexemes.{begins_by, value_of_digits}
use Rattle.cw_text.proofs.Digits.{value_on}
use Rattle.cw_sheet.specs.declared.sheet.SheetKind.TheVariants.{Unexpected, BadNumber}
use Rattle.cw_sheet.specs.Items.{Place, Taken, took, are_digits, first_number, first_value, is_i64, is_numeral, item, judged, refuse, value_of_numeral}
use Rattle.cw_sheet.proofs.Taking.{took_into}
use Rattle.cw_sheet.specs.Numerals.{is_written, is_written_below, is_written_value}

pub are_digits_is : (i : List ℕ) → 0 < length i → are_digits i ≡ list_all is_ascii_digit i
are_digits_is [] some = absurd (omega arith)
are_digits_is (c ∷ cs) some = refl

pub are_digits_none : (i : List ℕ) → length i ≡ 0 → are_digits i ≡ false
are_digits_none [] h = refl
are_digits_none (c ∷ cs) h = absurd (omega arith)

-- `value_of_digits` is the number that digits write
own : IsNumeralModel (λ ds. list_all is_ascii_digit ds ≡ true) (value_on 0)
own = numerals_by_fold _ (search rules) value_on (search rules)

are_digits_from : (i : List ℕ) → 0 < length i → list_all is_ascii_digit i ≡ true → are_digits i ≡ true
are_digits_from i some all = are_digits_is i some ∙ all

-- ## What is written is digits without a leading zero

-- what a number is written as: digits, and a zero in front only if there is no other digit
pub record IsPlain (i : List ℕ) : Type 0 where
  pub digits : are_digits i ≡ true
  pub front : get_or i 0 0 ≡ 48 → length i ≡ 1

decimal_is_plain : (n : ℕ) → n < 2 ^ 64 → IsPlain (decimal n)
decimal_is_plain n low = record {
  digits = are_digits_from (decimal n) (decimal_nonempty n low) (digits_decimal own n low);
  front = λ e. at_zero n low e;
} where
  at_zero : (n : ℕ) → n < 2 ^ 64 → get_or (decimal n) 0 0 ≡ 48 → length (decimal n) ≡ 1
  at_zero zero low e = ap length (decimal_digit 0 (lit< tt))
  at_zero (suc n) low e = absurd (omega (arith, first_decimal (suc n) (omega arith) low))

-- the parts of the test
is_written_parts : (limit : ℕ) (i : List ℕ) → is_written_below limit i ≡ true → (value_of_digits i < limit) × (i ≡ decimal (value_of_digits i))
is_written_parts limit i h =
    let parts = and_parts (nat_lt (value_of_digits i) limit) (bytes_eq i (decimal (value_of_digits i))) h in
    (ltb-true (value_of_digits i) limit parts.0, (bytes_eq-Decides i (decimal (value_of_digits i))).0 parts.1)

is_written_from : (limit : ℕ) (i : List ℕ) → value_of_digits i < limit → i ≡ decimal (value_of_digits i) → is_written_below limit i ≡ true
is_written_from limit i low e =
    and_from (nat_lt (value_of_digits i) limit) (bytes_eq i (decimal (value_of_digits i))) (lt-ltb (value_of_digits i) limit low) ((bytes_eq-Decides i (decimal (value_of_digits i))).1 e)

pub written_is_plain : (i : List ℕ) → is_written i ≡ true → IsPlain i
written_is_plain i h = let parts = is_written_parts (2 ^ 64) i h in subst IsPlain (sym parts.1) (decimal_is_plain (value_of_digits i) parts.0)

pub plain_is_written : (i : List ℕ) → IsPlain i → value_of_digits i < 2 ^ 64 → is_written i ≡ true
plain_is_written [] h low = let e : false ≡ true = h.digits in cc
plain_is_written (c ∷ cs) h low =
    is_written_from (2 ^ 64) (c ∷ cs) low (sym (decimal-digits_value own (c ∷ cs) h.digits (omega arith) h.front low))

pub no_digits : (i : List ℕ) → are_digits i ≡ false → is_written i ≡ true → ⊥
no_digits i h w = let e : false ≡ true = sym h ∙ (written_is_plain i w).digits in cc

pub no_leading_zero : (i : List ℕ) → (1 < length i) × (get_or i 0 0 ≡ 48) → is_written i ≡ true → ⊥
no_leading_zero i h w = let one = (written_is_plain i w).front h.1 in omega (arith, h.0)

plain_front : (i : List ℕ) → are_digits i ≡ true → ((1 < length i) × (get_or i 0 0 ≡ 48) → ⊥) → get_or i 0 0 ≡ 48 → length i ≡ 1
plain_front [] h none e = let z : false ≡ true = h in cc
plain_front (c ∷ []) h none e = refl
plain_front (c ∷ d ∷ ds) h none e = absurd (none (omega arith, e))

-- digits without a leading zero are written if they fit
pub written_if : (i : List ℕ) (o : Option ℕ) → are_digits i ≡ true → ((1 < length i) × (get_or i 0 0 ≡ 48) → ⊥) → SomeIff o (value_of_digits i < 2 ^ 64) (value_of_digits i) → SomeIff o (is_written i ≡ true) (value_of_digits i)
written_if i None h none s = λ w. s (is_written_parts (2 ^ 64) i w).0
written_if i (Some x) h none s = (plain_is_written i (record { digits = h; front = plain_front i h none }) s.0, s.1)

-- ## At most so much

pub below_is : (i : List ℕ) (n most : ℕ) → is_written i ≡ true → n ≡ value_of_digits i → n ≤ most → is_written_below (most + 1) i ≡ true
below_is i n most h e low = is_written_from (most + 1) i (omega arith) (is_written_parts (2 ^ 64) i h).1

pub above_is : (i : List ℕ) (n most : ℕ) → n ≡ value_of_digits i → most < n → is_written_below (most + 1) i ≡ false
above_is i n most e high = and_left (nat_lt (value_of_digits i) (most + 1)) (bytes_eq i (decimal (value_of_digits i))) (le-ltb (value_of_digits i) (most + 1) (omega arith))

not_true : (b : Bool) → (b ≡ true → ⊥) → b ≡ false
not_true true h = absurd (h refl)
not_true false h = refl

pub unwritten_is : (i : List ℕ) (most : ℕ) → (is_written i ≡ true → ⊥) → most < 2 ^ 64 → is_written_below (most + 1) i ≡ false
unwritten_is i most h fits =
    not_true (is_written_below (most + 1) i) (λ e.
    let parts = is_written_parts (most + 1) i e in
    h (is_written_from (2 ^ 64) i (omega (arith, parts.0)) parts.1))

-- ## Values

-- a value as it is written
abbrev pub is_text_of : List ℕ → ℤ → Bool
is_text_of i z = is_i64 z && bytes_eq i (signed_decimal z)

signed_text : (ds : List ℕ) (n : ℕ) → ds ≡ decimal n → 0 < n → n ≤ 2 ^ 63 → is_text_of (45 ∷ ds) (neg_ℤ (pos n)) ≡ true
signed_text ds zero e some low = absurd (omega arith)
signed_text ds (suc m) e some low =
    and_from (nat_lt m (2 ^ 63)) (bytes_eq (45 ∷ ds) (45 ∷ decimal (suc m))) (lt-ltb m (2 ^ 63) (omega arith)) ((bytes_eq-Decides (45 ∷ ds) (45 ∷ decimal (suc m))).1 (ap (λ l. 45 ∷ l) e))

pub record IsSigned (ds : List ℕ) (n : ℕ) : Type 0 where
  pub text : ds ≡ decimal n
  pub some : 0 < n
  pub low : n ≤ 2 ^ 63

signed_parts : (ds : List ℕ) (n : ℕ) → is_text_of (45 ∷ ds) (neg_ℤ (pos n)) ≡ true → IsSigned ds n
signed_parts ds zero h =
    let parts = and_parts true (bytes_eq (45 ∷ ds) (decimal 0)) h in
    let e = (bytes_eq-Decides (45 ∷ ds) (decimal 0)).0 parts.1 in
    let zero_text = decimal_digit 0 (lit< tt) in
    let front : 45 ≡ 48 + 0 = ap (λ l. get_or l 0 0) (e ∙ zero_text) in
    absurd (omega arith)
signed_parts ds (suc m) h =
    let parts = and_parts (nat_lt m (2 ^ 63)) (bytes_eq (45 ∷ ds) (45 ∷ decimal (suc m))) h in
    let e = (bytes_eq-Decides (45 ∷ ds) (45 ∷ decimal (suc m))).0 parts.1 in
    let low = ltb-true m (2 ^ 63) parts.0 in
    record { text = cc e; some = omega arith; low = omega (arith, low) }

-- a sign in front of digits
pub sign_is : (i : List ℕ) → begins_by (λ c. c == 45) i ≡ true → i ≡ 45 ∷ drop 1 i
sign_is [] h = cc
sign_is (c ∷ cs) h = ap (λ x. x ∷ cs) (eqb-true c 45 h)

pub signed_is_written : (i : List ℕ) (n : ℕ) → begins_by (λ c. c == 45) i ≡ true → is_written (drop 1 i) ≡ true → n ≡ value_of_digits (drop 1 i) → 0 < n → n ≤ 2 ^ 63 →
    (is_written_value i ≡ true) × (neg_ℤ (pos n) ≡ value_of_numeral i)
signed_is_written i n sign h e some low =
    let P : List ℕ → Type 0 = λ text. (is_written_value text ≡ true) × (neg_ℤ (pos n) ≡ value_of_numeral text) in
    subst P (sym (sign_is i sign)) (
      signed_text (drop 1 i) (value_of_digits (drop 1 i)) (is_written_parts (2 ^ 64) (drop 1 i) h).1 (omega arith) (omega arith),
      ap (λ m. neg_ℤ (pos m)) e,
    )

pub written_is_signed : (i : List ℕ) → begins_by (λ c. c == 45) i ≡ true → is_written_value i ≡ true →
    (is_written (drop 1 i) ≡ true) × (0 < value_of_digits (drop 1 i)) × (value_of_digits (drop 1 i) ≤ 2 ^ 63)
written_is_signed i sign h =
    let P : List ℕ → Type 0 = λ text. is_written_value text ≡ true in
    let parts = signed_parts (drop 1 i) (value_of_digits (drop 1 i)) (subst P (sign_is i sign) h) in
    let low = parts.low in
    (is_written_from (2 ^ 64) (drop 1 i) (omega arith) parts.text, parts.some, low)

-- no sign
pub unsigned_is : (i : List ℕ) → begins_by (λ c. c == 45) i ≡ false → is_written_value i ≡ is_written_below (2 ^ 63) i
unsigned_is i h = rw h refl

pub unsigned_is_written : (i : List ℕ) (n : ℕ) → begins_by (λ c. c == 45) i ≡ false → is_written i ≡ true → n ≡ value_of_digits i → n < 2 ^ 63 →
    (is_written_value i ≡ true) × (pos n ≡ value_of_numeral i)
unsigned_is_written i n sign h e low =
    (unsigned_is i sign ∙ is_written_from (2 ^ 63) i (omega arith) (is_written_parts (2 ^ 64) i h).1, ap pos e ∙ rw sign refl)

pub written_is_unsigned : (i : List ℕ) → begins_by (λ c. c == 45) i ≡ false → is_written_value i ≡ true → (is_written i ≡ true) × (value_of_digits i < 2 ^ 63)
written_is_unsigned i sign h =
    let parts = is_written_parts (2 ^ 63) i (sym (unsigned_is i sign) ∙ h) in
    let low = parts.0 in
    (is_written_from (2 ^ 64) i (omega arith) parts.1, low)

-- ## Numerals

pub signed_numeral : (i : List ℕ) → begins_by (λ c. c == 45) i ≡ true → is_numeral i ≡ are_digits (drop 1 i)
signed_numeral [] h = cc
signed_numeral (c ∷ cs) h = let P : ℕ → Type 0 = λ x. is_numeral (x ∷ cs) ≡ are_digits cs in subst P (sym (eqb-true c 45 h)) refl

pub unsigned_numeral : (i : List ℕ) → begins_by (λ c. c == 45) i ≡ false → is_numeral i ≡ are_digits i
unsigned_numeral i h = rw h (or-false (are_digits i))

-- ## What is made of an item

judged_no : {A : Type 0} (i : List ℕ) (b : Bool) (x : A) (p : Place) → is_numeral i ≡ false → judged i b x p ≡ refuse Unexpected p
judged_no i b x p h = rw h refl

judged_good : {A : Type 0} (i : List ℕ) (b : Bool) (x : A) (p : Place) → is_numeral i ≡ true → b ≡ true → judged i b x p ≡ took x p
judged_good i b x p h e = rw (h, e) refl

judged_bad : {A : Type 0} (i : List ℕ) (b : Bool) (x : A) (p : Place) → is_numeral i ≡ true → b ≡ false → judged i b x p ≡ refuse BadNumber p
judged_bad i b x p h e = rw (h, e) refl

-- the first item, judged
pub first_number_is : (limit : ℕ) (p : Place) (i : List ℕ) (q : Place) (t : Taken ℕ) → item p ≡ took i q → judged i (is_written_below limit i) (value_of_digits i) q ≡ t → first_number limit p ≡ t
first_number_is limit p i q t h e = took_into (item p) i q (λ i q. judged i (is_written_below limit i) (value_of_digits i) q) h ∙ e

pub first_value_is : (p : Place) (i : List ℕ) (q : Place) (t : Taken ℤ) → item p ≡ took i q → judged i (is_written_value i) (value_of_numeral i) q ≡ t → first_value p ≡ t
first_value_is p i q t h e = took_into (item p) i q (λ i q. judged i (is_written_value i) (value_of_numeral i) q) h ∙ e

module _ (i : List ℕ) (most : ℕ) (p : Place) where
  pub number_no : is_numeral i ≡ false → judged i (is_written_below (most + 1) i) (value_of_digits i) p ≡ refuse Unexpected p
  number_no h = judged_no i (is_written_below (most + 1) i) (value_of_digits i) p h

  pub number_good : (n : ℕ) → is_numeral i ≡ true → is_written i ≡ true → n ≡ value_of_digits i → n ≤ most → judged i (is_written_below (most + 1) i) (value_of_digits i) p ≡ took n p
  number_good n h w e low = judged_good i (is_written_below (most + 1) i) (value_of_digits i) p h (below_is i n most w e low) ∙ ap (λ x. took x p) (sym e)

  pub number_high : (n : ℕ) → is_numeral i ≡ true → n ≡ value_of_digits i → most < n → judged i (is_written_below (most + 1) i) (value_of_digits i) p ≡ refuse BadNumber p
  number_high n h e high = judged_bad i (is_written_below (most + 1) i) (value_of_digits i) p h (above_is i n most e high)

  pub number_bad : is_numeral i ≡ true → (is_written i ≡ true → ⊥) → most < 2 ^ 64 → judged i (is_written_below (most + 1) i) (value_of_digits i) p ≡ refuse BadNumber p
  number_bad h w fits = judged_bad i (is_written_below (most + 1) i) (value_of_digits i) p h (unwritten_is i most w fits)

module _ (i : List ℕ) (p : Place) where
  pub value_no : is_numeral i ≡ false → judged i (is_written_value i) (value_of_numeral i) p ≡ refuse Unexpected p
  value_no h = judged_no i (is_written_value i) (value_of_numeral i) p h

  pub value_good : (z : ℤ) → is_numeral i ≡ true → is_written_value i ≡ true → z ≡ value_of_numeral i → judged i (is_written_value i) (value_of_numeral i) p ≡ took z p
  value_good z h w e = judged_good i (is_written_value i) (value_of_numeral i) p h w ∙ ap (λ x. took x p) (sym e)

  pub value_bad : is_numeral i ≡ true → (is_written_value i ≡ true → ⊥) → judged i (is_written_value i) (value_of_numeral i) p ≡ refuse BadNumber p
  value_bad h w = judged_bad i (is_written_value i) (value_of_numeral i) p h (not_true (is_written_value i) w)
