-- The bytes that a text begins with.
use Rattle.std.proofs.Common.{◌≡◌, ℕ, zero, suc, ◌<◌, Bool, true, false, List, [], ◌∷◌, length, take, drop, refl, ap, arith}
use Rattle.std.proofs.lemmas.Grind.{common_steps}
use Rattle.std.proofs.lemmas.List.Folds.{length-prefix_len}
use Rattle.std.proofs.lemmas.List.Sums.{prefix_len_passes, take_while-cons}
use Rattle.std.specs.Char.{is_ascii_digit}
use Rattle.std.specs.List.{prefix_len, take_while, All}
use Rattle.cw_text.specs.Lexemes.{after_digits}

take_length : (n : ℕ) (xs : List ℕ) → take (length (take n xs)) xs ≡ take n xs
take_length zero xs = refl
take_length (suc n) [] = refl
take_length (suc n) (x ∷ xs) = ap (λ l. x ∷ l) (take_length n xs)

pub take_front : (p : ℕ → Bool) (xs : List ℕ) → take (length (take_while p xs)) xs ≡ take_while p xs
take_front p xs = take_length (prefix_len p xs) xs

pub all_take_while : (p : ℕ → Bool) (xs : List ℕ) → All (λ x. p x ≡ true) (take_while p xs)
all_take_while p xs k d below =
    let within : k < prefix_len p xs = omega (arith, length-prefix_len p xs) in
    let passes = prefix_len_passes p xs k d within in
    grind (arith, common_steps)

after_one : (x : ℕ) (xs : List ℕ) (b : Bool) → is_ascii_digit x ≡ b → after_digits xs ≡ drop (length (take_while is_ascii_digit xs)) xs →
    after_digits (x ∷ xs) ≡ drop (length (take_while is_ascii_digit (x ∷ xs))) (x ∷ xs)
after_one x xs true e h = rw (take_while-cons is_ascii_digit x xs, e) h
after_one x xs false e h = rw (take_while-cons is_ascii_digit x xs, e) refl

pub after_digits_is : (xs : List ℕ) → after_digits xs ≡ drop (length (take_while is_ascii_digit xs)) xs
after_digits_is [] = refl
after_digits_is (x ∷ xs) = after_one x xs (is_ascii_digit x) refl (after_digits_is xs)
