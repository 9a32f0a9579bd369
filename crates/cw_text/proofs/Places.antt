-- The tokens of a text follow each other.
use Rattle.std.proofs.Common.{◌≡◌, ℕ, zero, suc, ◌+◌, ◌<◌, ◌≤◌, ◌==◌, cond, List, length, take, drop, refl, ap, sym, subst, ◌∙◌, arith, length-drop, inl, inr}
use Rattle.std.proofs.Math.Seq.{take-add, drop-length}
use Rattle.std.proofs.lemmas.Bool.{cases_lt}
use Rattle.std.proofs.lemmas.List.{drop-drop}
use Rattle.std.proofs.lemmas.List.Sums.{sum_by-append}
use Rattle.cw_text.specs.declared.terminal.Terminal.{Terminal}
use Rattle.cw_text.specs.Lexemes.{Front, gap, found, width, front, begun_by, lexemes, lexemes_from, Lexemes}
use Rattle.cw_text.specs.Text.{line_of}
use Rattle.cw_text.specs.Places.{Follow, over, past, first}
use Rattle.cw_text.proofs.Fronts.{front_width}
use Rattle.cw_text.proofs.Passing.{begun, passed, newlines_in}

-- what is left at a place
abbrev left_at : (words : List Terminal) (text : List ℕ) (place : ℕ) → Lexemes
left_at words text place = lexemes_from words (line_of place text) 0 (drop place text)

line_of_sum : (text : List ℕ) (place n : ℕ) → line_of place text + newlines_in (take n (drop place text)) ≡ line_of (place + n) text
line_of_sum text place n = omega (arith, ap newlines_in (take-add place n text), sum_by-append (λ x. cond (x == 10) 1 0) (take place text) (take n (drop place text)))

left_after : (words : List Terminal) (text : List ℕ) (place n : ℕ) → lexemes_from words (line_of place text) n (drop place text) ≡ left_at words text (place + n)
left_after words text place n =
    passed words (line_of place text) n (drop place text)
    ∙ ap (λ l. lexemes_from words l 0 (drop n (drop place text))) (line_of_sum text place n)
    ∙ ap (λ rest. lexemes_from words (line_of (place + n) text) 0 rest) (drop-drop n place text)

-- the front that stands at a place, and what is left behind it
step : (words : List Terminal) (text : List ℕ) (place : ℕ) (f : Front) → place < length text → front words (drop place text) ≡ f →
    Follow words text (place + width f) (left_at words text (place + width f)) → Follow words text place (begun_by f (line_of place text) (left_at words text (place + width f)))
step words text place (gap n) within is more = past within is more
step words text place (found t n) within is more = first within is more

at_end : (words : List Terminal) (text : List ℕ) → Follow words text (length text) (left_at words text (length text))
at_end words text = subst (λ rest. Follow words text (length text) (lexemes_from words (line_of (length text) text) 0 rest)) (sym (drop-length text)) over

-- inside a text, where it is so from each place behind on, from which at most k bytes are left
inside : (words : List Terminal) (text : List ℕ) (k place : ℕ) → place < length text → length text ≤ place + suc k →
    ((behind : ℕ) → behind ≤ length text → length text ≤ behind + k → Follow words text behind (left_at words text behind)) →
    Follow words text place (left_at words text place)
inside words text k place within bound goes_on =
    let rest = drop place text in
    let line = line_of place text in
    let f = front words rest in
    let some : 0 < length rest = omega (arith, length-drop place text) in
    let wide = front_width words rest f refl some in
    let more = goes_on (place + width f) (omega (arith, length-drop place text)) (omega arith) in
    subst (λ xs. Follow words text place xs)
    (sym (begun words line rest some ∙ ap (λ xs. begun_by f line xs) (left_after words text place (width f))))
    (step words text place f within refl more)

follow_from : (words : List Terminal) (text : List ℕ) (k place : ℕ) → place ≤ length text → length text ≤ place + k → Follow words text place (left_at words text place)
follow_from words text zero place within bound = let e : length text ≡ place = omega arith in subst (λ p. Follow words text p (left_at words text p)) e (at_end words text)
follow_from words text (suc k) place within bound =
    elim (cases_lt place (length text)) [
      | inl less ↦ inside words text k place less bound (follow_from words text k)
      | inr more ↦ let e : length text ≡ place = omega arith in subst (λ p. Follow words text p (left_at words text p)) e (at_end words text)
    ]

pub follow : (words : List Terminal) (text : List ℕ) → Follow words text 0 (lexemes words text)
follow words text = follow_from words text (length text) 0 (omega arith) (omega arith)
