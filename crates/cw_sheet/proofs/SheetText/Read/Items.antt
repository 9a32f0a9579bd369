-- An item is taken as what it spells.
use Rattle.std.proofs.Common.{◌≡◌, ℕ, zero, suc, ◌==◌, ◌^◌, ◌<◌, ◌≤◌, ◌&&◌, ◌||◌, Bool, true, false, not, cond, nat_lt, if◌then◌else◌, List, [], ◌∷◌, ◌++◌, length, map, drop, ℤ, pos, negsuc, neg_ℤ, refl, ap, sym, subst, ◌∙◌, append_assoc, arith, rules}
use Rattle.std.proofs.lemmas.Bool.{and_from, and_parts, lt-ltb, ltb-true, or_left}
use Rattle.std.proofs.lemmas.Bool.Decides.{nat_tests}
use Rattle.std.proofs.lemmas.Fmt.{decimal_nonempty, digits_decimal, digits_value-decimal}
use Rattle.std.proofs.lemmas.List.Sums.{take_while-cons}
use Rattle.std.proofs.lemmas.List.{length-map}
use Rattle.std.proofs.lemmas.Str.Parse.{IsNumeralModel, numerals_by_fold}
use Rattle.std.specs.Char.{is_ascii_digit}
use Rattle.std.specs.Cmp.Lexicographic.{bytes_decides}
use Rattle.std.specs.Fmt.{decimal, signed_decimal}
use Rattle.std.specs.List.{AllByRecursion, flat_map, list_all, take_while}
use Rattle.std.specs.Str.{bytes_eq}
use Rattle.cw_text.proofs.Digits.{value_on}
use Rattle.cw_text.specs.Lexemes.{begins_by, value_of_digits}
use Rattle.cw_sheet.specs.declared.sheet.SheetKind.TheVariants.{Unexpected, BadNumber}
use Rattle.cw_sheet.specs.Items.{Place, Taken, took, all_behind, are_digits, behind, exactly, first_item, first_number, is_i64, is_newline, is_numeral, is_space, judged, number, refuse, up_to, value, value_of_numeral, word}
use Rattle.cw_sheet.proofs.SheetText.Beginning.{drop_front}
use Rattle.cw_sheet.proofs.SheetText.Told.Items.{AllFrom}
use Rattle.cw_sheet.proofs.SheetText.Read.Taking.{Takes, on_line, ends_there, long_enough, spell, takes_if, then_takes}

-- ## Where an item ends

abbrev pub is_item_byte : ℕ → Bool
is_item_byte c = not (is_space c || is_newline c)

taken_while : (p : ℕ → Bool) (xs rest : List ℕ) → list_all p xs ≡ true → take_while p rest ≡ [] → take_while p (xs ++ rest) ≡ xs
taken_while p [] rest all ends = ends
taken_while p (x ∷ xs) rest all ends =
    let parts = and_parts (p x) (list_all p xs) all in
    take_while-cons p x (xs ++ rest)
    ∙ ap (λ b. cond b (x ∷ take_while p (xs ++ rest)) []) parts.0
    ∙ ap (λ ys. x ∷ ys) (taken_while p xs rest parts.1 ends)

item_before : (i rest : List ℕ) → list_all is_item_byte i ≡ true → first_item rest ≡ [] → first_item (i ++ rest) ≡ i
item_before i rest all ends = taken_while is_item_byte i rest all ends

-- a word that is there
pub word_takes : (w : List ℕ) (l : ℕ) (rest : List ℕ) → list_all is_item_byte w ≡ true → first_item rest ≡ [] → Takes (word w (on_line l (w ++ rest))) tt rest
word_takes w l rest all ends =
    takes_if (bytes_eq (first_item (w ++ rest)) w) (took tt (behind (length w) (on_line l (w ++ rest)))) (refuse Unexpected (on_line l (w ++ rest))) tt rest
    ((bytes_decides (first_item (w ++ rest)) w).1 (item_before w rest all ends))
    (record { line = l; is = ap (λ t. took tt (on_line l t)) (drop_front w rest) })

-- ## Digits

digit_is_item_byte : (c : ℕ) → is_ascii_digit c ≡ true → is_item_byte c ≡ true
digit_is_item_byte c h = grind (arith, nat_tests)

digit_is_no_minus : (c : ℕ) → is_ascii_digit c ≡ true → (c == 45) ≡ false
digit_is_no_minus c h = grind (arith, nat_tests)

digits_are_item_bytes : (ds : List ℕ) → list_all is_ascii_digit ds ≡ true → list_all is_item_byte ds ≡ true
digits_are_item_bytes [] h = refl
digits_are_item_bytes (d ∷ ds) h =
    let parts = and_parts (is_ascii_digit d) (list_all is_ascii_digit ds) h in
    and_from (is_item_byte d) (list_all is_item_byte ds) (digit_is_item_byte d parts.0) (digits_are_item_bytes ds parts.1)

digits_without_minus : (ds : List ℕ) → list_all is_ascii_digit ds ≡ true → begins_by (λ c. c == 45) ds ≡ false
digits_without_minus [] h = refl
digits_without_minus (d ∷ ds) h = digit_is_no_minus d (and_parts (is_ascii_digit d) (list_all is_ascii_digit ds) h).0

some_digits : (ds : List ℕ) → 0 < length ds → list_all is_ascii_digit ds ≡ true → are_digits ds ≡ true
some_digits [] some h = absurd (omega arith)
some_digits (d ∷ ds) some h = h

own : IsNumeralModel (λ ds. list_all is_ascii_digit ds ≡ true) (value_on 0)
own = numerals_by_fold _ (search rules) value_on (search rules)

decimal_digits : (n : ℕ) → n < 2 ^ 64 → list_all is_ascii_digit (decimal n) ≡ true
decimal_digits n small = digits_decimal own n small

decimal_value : (n : ℕ) → n < 2 ^ 64 → value_of_digits (decimal n) ≡ n
decimal_value n small = digits_value-decimal own n small

decimal_are_digits : (n : ℕ) → n < 2 ^ 64 → are_digits (decimal n) ≡ true
decimal_are_digits n small = some_digits (decimal n) (decimal_nonempty n small) (decimal_digits n small)

-- ## Numbers

judged_takes : {A : Type 0} (i : List ℕ) (good : Bool) (x : A) (p : Place) (rest : List ℕ) → is_numeral i ≡ true → good ≡ true → p.text ≡ rest → Takes (judged i good x p) x rest
judged_takes i good x p rest numeral fine left =
    takes_if (is_numeral i) (if good then took x p else refuse BadNumber p) (refuse Unexpected p) x rest numeral
    (takes_if good (took x p) (refuse BadNumber p) x rest fine (record { line = p.line; is = ap (λ t. took x (on_line p.line t)) left }))

pub first_number_takes : (limit n l : ℕ) (rest : List ℕ) → n < limit → n < 2 ^ 64 → first_item rest ≡ [] → Takes (first_number limit (on_line l (decimal n ++ rest))) n rest
first_number_takes limit n l rest low small ends =
    let text = decimal n ++ rest in
    let same = item_before (decimal n) rest (digits_are_item_bytes (decimal n) (decimal_digits n small)) ends in
    let at_item = λ (i : List ℕ) (v : ℕ). Takes (judged i (nat_lt v limit && bytes_eq i (decimal v)) v (behind (length i) (on_line l text))) n rest in
    let there : at_item (decimal n) n =
    judged_takes (decimal n) (nat_lt n limit && bytes_eq (decimal n) (decimal n)) n (behind (length (decimal n)) (on_line l text)) rest
    (or_left (are_digits (decimal n)) _ (decimal_are_digits n small))
    (and_from (nat_lt n limit) (bytes_eq (decimal n) (decimal n)) (lt-ltb n limit low) ((bytes_decides (decimal n) (decimal n)).1 refl))
    (drop_front (decimal n) rest) in
    subst (λ i. at_item i (value_of_digits i)) (sym same) (subst (λ v. at_item (decimal n) v) (sym (decimal_value n small)) there)

pub number_takes : (limit n l : ℕ) (rest : List ℕ) → n < limit → n < 2 ^ 64 → first_item rest ≡ [] → Takes (number limit (on_line l ((32 ∷ decimal n) ++ rest))) n rest
number_takes limit n l rest low small ends = first_number_takes limit n l rest low small ends

-- ## Values

small_value : (n : ℕ) → is_i64 (pos n) ≡ true → n < 2 ^ 64
small_value n h = let low : n < 2 ^ 63 = ltb-true n (2 ^ 63) h in omega arith

small_negative : (n : ℕ) → is_i64 (negsuc n) ≡ true → suc n < 2 ^ 64
small_negative n h = let low : n < 2 ^ 63 = ltb-true n (2 ^ 63) h in omega arith

signed_item : (z : ℤ) → is_i64 z ≡ true → list_all is_item_byte (signed_decimal z) ≡ true
signed_item (pos n) h = digits_are_item_bytes (decimal n) (decimal_digits n (small_value n h))
signed_item (negsuc n) h = digits_are_item_bytes (decimal (suc n)) (decimal_digits (suc n) (small_negative n h))

signed_numeral : (z : ℤ) → is_i64 z ≡ true → is_numeral (signed_decimal z) ≡ true
signed_numeral (pos n) h = or_left (are_digits (decimal n)) _ (decimal_are_digits n (small_value n h))
signed_numeral (negsuc n) h = decimal_are_digits (suc n) (small_negative n h)

signed_value : (z : ℤ) → is_i64 z ≡ true → value_of_numeral (signed_decimal z) ≡ z
signed_value (pos n) h =
    ap (λ b. cond b (neg_ℤ (pos (value_of_digits (drop 1 (decimal n))))) (pos (value_of_digits (decimal n)))) (digits_without_minus (decimal n) (decimal_digits n (small_value n h)))
    ∙ ap pos (decimal_value n (small_value n h))
signed_value (negsuc n) h = ap (λ v. neg_ℤ (pos v)) (decimal_value (suc n) (small_negative n h))

pub value_takes : (z : ℤ) (l : ℕ) (rest : List ℕ) → is_i64 z ≡ true → first_item rest ≡ [] → Takes (value (on_line l ((32 ∷ signed_decimal z) ++ rest))) z rest
value_takes z l rest small ends =
    let i = signed_decimal z in
    let text = i ++ rest in
    let same = item_before i rest (signed_item z small) ends in
    let at_item = λ (j : List ℕ) (v : ℤ). Takes (judged j (is_i64 v && bytes_eq j (signed_decimal v)) v (behind (length j) (on_line l text))) z rest in
    let there : at_item i z =
    judged_takes i (is_i64 z && bytes_eq i (signed_decimal z)) z (behind (length i) (on_line l text)) rest (signed_numeral z small)
    (and_from (is_i64 z) (bytes_eq i (signed_decimal z)) small ((bytes_decides i i).1 refl))
    (drop_front i rest) in
    subst (λ j. at_item j (value_of_numeral j)) (sym same) (subst (λ v. at_item i v) (sym (signed_value z small)) there)

-- ## Several of a kind

module _ {A : Type 0} (w : A → List ℕ) (P : A → Type 0) (each : Place → Taken A)
    (takes : (x : A) (l : ℕ) (rest : List ℕ) → P x → first_item rest ≡ [] → Takes (each (on_line l ((32 ∷ w x) ++ rest))) x rest) where
  up_to_takes : (xs : List A) (most l : ℕ) (rest : List ℕ) → AllByRecursion P xs → length xs ≤ most → Takes (up_to most each (on_line l (spell (map w xs) (10 ∷ rest)))) xs (10 ∷ rest)
  up_to_takes [] zero l rest all few = record { line = l; is = refl }
  up_to_takes [] (suc most) l rest all few = record { line = l; is = refl }
  up_to_takes (x ∷ xs) zero l rest all few = absurd (omega arith)
  up_to_takes (x ∷ xs) (suc most) l rest all few =
      let left = spell (map w xs) (10 ∷ rest) in
      then_takes _ _
      (takes x l left all.0 (ends_there (map w xs) rest))
      (λ m. then_takes _ _
      (up_to_takes xs most m rest all.1 (omega arith)) (λ n. record { line = n; is = refl }))

  pub all_behind_takes : (xs : List A) (l : ℕ) (rest : List ℕ) → AllByRecursion P xs → Takes (all_behind each (on_line l (spell (map w xs) (10 ∷ rest)))) xs (10 ∷ rest)
  all_behind_takes xs l rest all =
      up_to_takes xs (length (spell (map w xs) (10 ∷ rest))) l rest all (omega (arith, long_enough (map w xs) (10 ∷ rest), length-map xs w))

pub exactly_takes : {A : Type 0} (t : A → List ℕ) (P : ℕ → A → Type 0) (each : ℕ → Place → Taken A) →
    ((k : ℕ) (x : A) (l : ℕ) (rest : List ℕ) → P k x → Takes (each k (on_line l (t x ++ rest))) x rest) →
    (xs : List A) (k l : ℕ) (rest : List ℕ) → AllFrom P k xs → Takes (exactly (length xs) k each (on_line l (flat_map t xs ++ rest))) xs rest
exactly_takes t P each takes [] k l rest all = record { line = l; is = refl }
exactly_takes t P each takes (x ∷ xs) k l rest all =
    let left = flat_map t xs ++ rest in
    subst (λ s. Takes (exactly (suc (length xs)) k each (on_line l s)) (x ∷ xs) rest) (sym (append_assoc (t x) (flat_map t xs) rest))
    (then_takes _ _
    (takes k x l left all.0)
    (λ m. then_takes _ _
    (exactly_takes t P each takes xs (suc k) m rest all.1) (λ n. record { line = n; is = refl })))
