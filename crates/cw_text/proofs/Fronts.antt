-- What a text begins with.
use Rattle.std.proofs.Common.{◌≡◌, ℕ, ◌<◌, ◌≤◌, ◌^◌, ◌==◌, not, ◌||◌, Bool, true, false, cond, List, [], ◌∷◌, length, get_or, codes, refl, ap, arith, lit<}
use Rattle.std.proofs.lemmas.List.Sums.{take_while-cons, prefix_len-le-length}
use Rattle.std.proofs.lemmas.List.Folds.{length-prefix_len}
use Rattle.std.specs.Prelude.{nat_eq, nat_le}
use Rattle.std.specs.Char.{is_ascii_digit}
use Rattle.std.specs.List.{starts_with, take_while}
use Rattle.cw_text.specs.declared.fault.TextKind.TheVariants.{BadNumber}
use Rattle.cw_text.specs.declared.terminal.Terminal.{Terminal}
use Rattle.cw_text.specs.declared.terminal.Terminal.TheVariants as m
use Rattle.cw_text.specs.Lexemes.{Token, Front, gap, found, terminal, number, bad, end, is_blank, is_letter, is_word, begins_by, spelling, signs, word_token, number_token, value_of_digits, after_digits, sign_front, front, width}
use Rattle.std.specs.Str.{bytes_eq}
use Rattle.std.proofs.lemmas.Bool.{and_parts}

-- ## Words and numbers from their first byte on

take_while_passes : (p : ℕ → Bool) (x : ℕ) (xs : List ℕ) → p x ≡ true → take_while p (x ∷ xs) ≡ x ∷ take_while p xs
take_while_passes p x xs h = rw (take_while-cons p x xs, h) refl

pub word_of_letter : (c : ℕ) → is_letter c ≡ true → is_word c ≡ true
word_of_letter c h = ap (λ b. b || is_ascii_digit c) h

pub word_is_front : (ks : List Terminal) (text : List ℕ) → 0 < length text → is_blank (get_or text 0 0) ≡ false → is_letter (get_or text 0 0) ≡ true →
    front ks text ≡ found (word_token ks (take_while is_word text)) (length (take_while is_word text))
word_is_front ks [] some blank letter = absurd (omega arith)
word_is_front ks (c ∷ cs) some blank letter = let e = take_while_passes is_word c cs (word_of_letter c letter) in
    rw (e, blank, letter) refl

pub number_is_front : (ks : List Terminal) (text : List ℕ) → 0 < length text → is_blank (get_or text 0 0) ≡ false → is_letter (get_or text 0 0) ≡ false → is_ascii_digit (get_or text 0 0) ≡ true →
    front ks text ≡ found (number_token (take_while is_ascii_digit text) (after_digits text)) (length (take_while is_ascii_digit text))
number_is_front ks [] some blank letter digit = absurd (omega arith)
number_is_front ks (c ∷ cs) some blank letter digit = let e = take_while_passes is_ascii_digit c cs digit in
    rw (e, blank, letter, digit) refl

-- ## What is true of each front

either : {A : Type 0} (P : A → Type 0) (b : Bool) (x y : A) → (b ≡ true → P x) → (b ≡ false → P y) → P (cond b x y)
either P true x y h k = h refl
either P false x y h k = k refl

abbrev pub is_end : Token → Bool
is_end end = true
is_end t = false

abbrev pub gives_end : Front → Bool
gives_end (gap n) = false
gives_end (found t n) = is_end t

-- a front takes some bytes, as many as there are at most, and the end of a text is none
pub record IsFrontOf (text : List ℕ) (f : Front) : Type 0 where
  pub some : 0 < width f
  pub within : width f ≤ length text
  pub no_end : gives_end f ≡ false

word_no_end : (ks : List Terminal) (text : List ℕ) → is_end (word_token ks text) ≡ false
word_no_end [] text = refl
word_no_end (k ∷ ks) text = either (λ t. is_end t ≡ false) (bytes_eq (spelling k) text) (terminal k) (word_token ks text) (λ _. refl) (λ _. word_no_end ks text)

number_no_end : (digits rest : List ℕ) → is_end (number_token digits rest) ≡ false
number_no_end digits rest = either (λ t. is_end t ≡ false) (begins_by is_letter rest || nat_le (2 ^ 63) (value_of_digits digits)) (bad BadNumber) (number (value_of_digits digits)) (λ _. refl) (λ _. refl)

spelled_some : (a : Terminal) → 0 < length (spelling a)
spelled_some m.Cell = lit< tt
spelled_some a = lit< tt

starts_with_fits : (xs ys : List ℕ) → starts_with nat_eq ys xs ≡ true → length xs ≤ length ys
starts_with_fits [] ys h = omega arith
starts_with_fits (x ∷ xs) [] h = cc
starts_with_fits (x ∷ xs) (y ∷ ys) h = omega (arith, starts_with_fits xs ys (and_parts (x == y) (starts_with nat_eq ys xs) h).1)

sign_is_front : (ss : List Terminal) (c : ℕ) (cs : List ℕ) → IsFrontOf (c ∷ cs) (sign_front ss (c ∷ cs))
sign_is_front [] c cs = record { some = omega arith; within = omega arith; no_end = refl }
sign_is_front (s ∷ ss) c cs = either (IsFrontOf (c ∷ cs)) (starts_with nat_eq (c ∷ cs) (spelling s)) (found (terminal s) (length (spelling s))) (sign_front ss (c ∷ cs))
    (λ h. record { some = spelled_some s; within = starts_with_fits (spelling s) (c ∷ cs) h; no_end = refl })
    (λ _. sign_is_front ss c cs)

length-take_while : (p : ℕ → Bool) (xs : List ℕ) → length (take_while p xs) ≤ length xs
length-take_while p xs = omega (arith, length-prefix_len p xs, prefix_len-le-length p xs)

pub front_is : (ks : List Terminal) (c : ℕ) (cs : List ℕ) → IsFrontOf (c ∷ cs) (front ks (c ∷ cs))
front_is ks c cs =
    either (IsFrontOf (c ∷ cs)) (is_blank c) _ _ (λ _. record { some = omega arith; within = omega arith; no_end = refl })
    (λ _. either (IsFrontOf (c ∷ cs)) (is_letter c) _ _ (λ _. record { some = omega arith; within = omega (arith, length-take_while is_word cs); no_end = word_no_end ks (c ∷ take_while is_word cs) })
    (λ _. either (IsFrontOf (c ∷ cs)) (is_ascii_digit c) _ _ (λ _. record { some = omega arith; within = omega (arith, length-take_while is_ascii_digit cs); no_end = number_no_end (c ∷ take_while is_ascii_digit cs) (after_digits cs) })
    (λ _. either (IsFrontOf (c ∷ cs)) (starts_with nat_eq (c ∷ cs) (codes "//")) _ _ (λ _. record { some = omega arith; within = omega (arith, length-take_while (λ x. not (x == 10)) cs); no_end = refl })
    (λ _. sign_is_front signs c cs))))

pub front_width : (ks : List Terminal) (text : List ℕ) (f : Front) → f ≡ front ks text → 0 < length text → (0 < width f) × (width f ≤ length text)
front_width ks [] f is some = absurd (omega arith)
front_width ks (c ∷ cs) f is some = let h = front_is ks c cs in rw is (h.some, h.within)
