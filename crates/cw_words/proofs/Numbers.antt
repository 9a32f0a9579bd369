-- What `parse` reads is the number that a text spells.
use Rattle.std.proofs.Common.{le-leb, ◌≡◌, ◌≢◌, ◌<◌, ◌≤◌, ◌&&◌, ◌∷◌, ◌∙◌, ◌^◌, ◌+◌, ◌-◌, [], ℕ, ℤ, pos, neg_ℤ, Bool, true, false, List, length, drop, get_or, Option, Some, None, Result, Ok, Err, arith, rules, sym, ap, refl, w64}
use Rattle.std.specs.Prelude.{if◌then◌else◌, nat_le, option_and_then, option_map, OkIff}
use Rattle.std.specs.Bool.{MatchBool}
use Rattle.std.proofs.lemmas.Grind.{common_steps}
use Rattle.std.specs.Result.{result_ok}
use Rattle.std.specs.Str.{all_ascii_digits}
use Rattle.std.specs.Str.Parse.{ParsesSigned, ParsesUnsigned, digits_value}
use Rattle.std.proofs.lemmas.Str.Parse.{IsNumeralModel, numerals_by_value, parse_plain, parse_signed_minus, parse_signed_plain, tells_all_ascii_digits}
use Rattle.cw_words.specs.Options.{has_hyphen, integer_of, number_within}

own : IsNumeralModel (λ ds. all_ascii_digits ds ≡ true) (digits_value 10)
own = numerals_by_value _ tells_all_ascii_digits

abbrev Spells : (limit : ℕ) → List ℕ → Type 0
Spells limit bs = (all_ascii_digits bs ≡ true) × (0 < length bs) × (digits_value 10 bs < limit)

abbrev bounded : (least most : ℕ) → ℕ → Option ℕ
bounded least most n = if nat_le least n && nat_le n most then Some n else None

pub bounded-in : (least most n : ℕ) → least ≤ n → n ≤ most → bounded least most n ≡ Some n
bounded-in least most n l m = rw (le-leb least n l, le-leb n most m) refl

spelled : (least most : ℕ) (bs : List ℕ) → all_ascii_digits bs ≡ true → 0 < length bs → number_within least most bs ≡ bounded least most (digits_value 10 bs)
spelled least most [] s some = absurd (omega arith)
spelled least most (d ∷ ds) s some = rw s refl

unspelled : (limit least most : ℕ) (bs : List ℕ) → most < limit → (Spells limit bs → ⊥) → number_within least most bs ≡ None
unspelled limit least most [] fits n = refl
unspelled limit least most (d ∷ ds) fits n = go (all_ascii_digits (d ∷ ds)) refl (nat_le (digits_value 10 (d ∷ ds)) most) refl
  where
    go : (t : Bool) → all_ascii_digits (d ∷ ds) ≡ t → (u : Bool) → nat_le (digits_value 10 (d ∷ ds)) most ≡ u → number_within least most (d ∷ ds) ≡ None
    go false e u i = rw e refl
    go true e false i = rw (e, i) (search rules)
    go true e true i = let m : digits_value 10 (d ∷ ds) ≤ most = search rules in absurd (n (e, omega arith, omega arith))

pub read : {E : Type 0} (least most : ℕ) (bs : List ℕ) (r : Result ℕ E) → ParsesUnsigned 64 10 bs r → get_or bs 0 0 ≢ 43 → most < 2 ^ 64 → number_within least most bs ≡ option_and_then (bounded least most) (result_ok r)
read {E = E} least most bs r h plain fits = go r (parse_plain own 64 bs r h plain)
  where
    go : (r : Result ℕ E) → OkIff r (Spells (2 ^ 64) bs) (digits_value 10 bs) → number_within least most bs ≡ option_and_then (bounded least most) (result_ok r)
    go (Ok n) k = spelled least most bs k.0.0 k.0.1 ∙ ap (bounded least most) (sym k.1)
    go (Err e) k = unspelled (2 ^ 64) least most bs fits k

-- ## Integers

-- digits that stand for an integer, where they fit exactly up to some number
of_digits : {E : Type 0} (f : ℕ → ℤ) (most : ℕ) (Fit : Type 0) (ds : List ℕ) (r : Result ℤ E) → (digits_value 10 ds ≤ most → Fit) → (Fit → digits_value 10 ds ≤ most)
    → OkIff r ((all_ascii_digits ds ≡ true) × (0 < length ds) × Fit) (f (digits_value 10 ds)) → option_map f (number_within 0 most ds) ≡ result_ok r
of_digits f most Fit ds (Ok z) to from k = ap (option_map f) (spelled 0 most ds k.0.0 k.0.1 ∙ bounded-in 0 most (digits_value 10 ds) (omega arith) (from k.0.2)) ∙ ap Some (sym k.1)
of_digits f most Fit ds (Err e) to from k = ap (option_map f) (unspelled (most + 1) 0 most ds (omega arith) (λ s. k (s.0, s.1, to (omega (arith, s.2)))))

begins_with_hyphen : (bs : List ℕ) (t : Bool) → has_hyphen bs ≡ t → MatchBool t (get_or bs 0 0 ≡ 45) (get_or bs 0 0 ≢ 45)
begins_with_hyphen [] true e = cc
begins_with_hyphen [] false e = λ h. cc
begins_with_hyphen (c ∷ cs) true e = grind (arith, common_steps)
begins_with_hyphen (c ∷ cs) false e = grind (arith, common_steps)

pub read_integer : {E : Type 0} (bs : List ℕ) (r : Result ℤ E) → ParsesSigned w64 10 bs r → get_or bs 0 0 ≢ 43 → integer_of bs ≡ result_ok r
read_integer bs r h plain = go (has_hyphen bs) refl
  where
    go : (t : Bool) → has_hyphen bs ≡ t → integer_of bs ≡ result_ok r
    go true e = rw e (of_digits (λ n. neg_ℤ (pos n)) (2 ^ 63) (digits_value 10 (drop 1 bs) ≤ 2 ^ 63) (drop 1 bs) r (λ m. m) (λ m. m) (parse_signed_minus own w64 bs r h (begins_with_hyphen bs true e)))
    go false e = rw e (of_digits pos (2 ^ 63 - 1) (digits_value 10 bs < 2 ^ 63) bs r (λ m. omega arith) (λ m. omega arith) (parse_signed_plain own w64 bs r h plain (begins_with_hyphen bs false e)))
