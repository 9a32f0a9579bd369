-- The line that says in which language a text is.
use Rattle.std.proofs.Common.{◌≡◌, ℕ, ◌≤◌, ◌&&◌, false, codes, Ok, nat_le, refl, sym, arith, subst}
use Rattle.std.proofs.lemmas.Bool.{and_parts, cond_both, le-leb, leb-true}
use Rattle.std.specs.Cmp.Lexicographic.{same_text}
use Rattle.std.specs.Str.{bytes_eq}
use Rattle.cw_text.specs.declared.terminal.Terminal.TheVariants as m
use Rattle.cw_text.specs.Lexemes.{Lexemes, comes, end_on, name as a_name, number as a_number, terminal}
use Rattle.cw_text.specs.Text.{line_ended, is_headed, language_of, numbered}
use Rattle.cw_text.specs.Written.{IsHeading, a_heading, no_heading}

-- ## What is named is written

ended_is : (newest n k i j : ℕ) (xs : Lexemes) → 1 ≤ k → k ≤ newest → line_ended k xs ≡ Ok n → IsHeading newest n (comes (a_name (codes "language")) i (comes (a_number k) j xs))
ended_is newest n k i j (end_on l) some new is = cc
ended_is newest n k i j (comes (terminal m.Semicolon) l xs) some new is =
    let e : k ≡ n = cc in
    subst (λ n. IsHeading newest n (comes (a_name (codes "language")) i (comes (a_number k) j (comes (terminal m.Semicolon) l xs)))) e (a_heading some new)
ended_is newest n k i j (comes (terminal a) l xs) some new is = cc
ended_is newest n k i j (comes t l xs) some new is = cc

numbered_is : (newest n i : ℕ) (xs : Lexemes) → numbered newest xs ≡ Ok n → IsHeading newest n (comes (a_name (codes "language")) i xs)
numbered_is newest n i (comes (a_number k) j xs) =
    cond_both (nat_le 1 k && nat_le k newest) (line_ended k xs) _ (λ r. r ≡ Ok n → IsHeading newest n (comes (a_name (codes "language")) i (comes (a_number k) j xs)))
    (λ within. let parts = and_parts (nat_le 1 k) (nat_le k newest) within in ended_is newest n k i j xs (leb-true 1 k parts.0) (leb-true k newest parts.1))
    (λ _ is. cc)
numbered_is newest n i (comes (terminal a) j xs) = λ is. cc
numbered_is newest n i (comes t j xs) = λ is. cc
numbered_is newest n i (end_on l) = λ is. cc

unheaded : (newest n : ℕ) (xs : Lexemes) → is_headed xs ≡ false → language_of newest xs ≡ Ok n → IsHeading newest n xs
unheaded newest n xs plain is =
    let named : language_of newest xs ≡ Ok 1 = rw plain refl in
    let e : 1 ≡ n = cc in
    subst (λ n. IsHeading newest n xs) e (no_heading plain)

pub heading_is : (newest n : ℕ) (xs : Lexemes) → language_of newest xs ≡ Ok n → IsHeading newest n xs
heading_is newest n (end_on l) is = unheaded newest n (end_on l) refl is
heading_is newest n (comes (a_name w) l xs) is =
    cond_both (bytes_eq w (codes "language")) (numbered newest xs) (Ok 1) (λ r. r ≡ Ok n → IsHeading newest n (comes (a_name w) l xs))
    (λ same is. subst (λ w. IsHeading newest n (comes (a_name w) l xs)) (sym (same_text w (codes "language") (sym same))) (numbered_is newest n l xs is))
    (λ other _. unheaded newest n (comes (a_name w) l xs) other is) is
heading_is newest n (comes (terminal a) l xs) is = unheaded newest n (comes (terminal a) l xs) refl is
heading_is newest n (comes t l xs) is = unheaded newest n (comes t l xs) refl is

-- ## What is written is named

pub heading_named : (newest n : ℕ) (xs : Lexemes) → IsHeading newest n xs → language_of newest xs ≡ Ok n
heading_named newest n xs (no_heading plain) = rw plain refl
heading_named newest n xs (a_heading some new) = rw (le-leb 1 n some, le-leb n newest new) refl

-- ## Which languages there are

heading_within : {newest n : ℕ} {xs : Lexemes} → IsHeading newest n xs → 1 ≤ newest → (1 ≤ n) × (n ≤ newest)
heading_within (no_heading plain) known = (omega arith, known)
heading_within (a_heading some new) known = (some, new)

pub language_within : (newest n : ℕ) (xs : Lexemes) → 1 ≤ newest → language_of newest xs ≡ Ok n → (1 ≤ n) × (n ≤ newest)
language_within newest n xs known is = heading_within (heading_is newest n xs is) known
