-- What is beyond the columns names no trace, and what names no trace has no marks.
use Rattle.std.proofs.Common.{◌≡◌, ◌≢◌, ℕ, ◌≤◌, List, length, ap, refl, ◌∙◌, arith, Bool, true, false, inl, inr, ⊎_elim, nat_eq, eqb-true, eq-eqb}
use Rattle.std.specs.Prelude.{◌⊎◌, ◌/◌, ◌%◌, is_some}
use Rattle.cw_tree.specs.Walks.{has}
use Rattle.std.proofs.lemmas.Bool.{false_from_ne_true}
use Rattle.std.proofs.lemmas.Option.{slice_get_past}
use Rattle.cw_trace.specs.Columns.{ColumnTable, is_trace, opening_mark, closing_mark, stands_before, trace_in}
use Rattle.cw_trace.specs.Tier.{AreSound}
use Rattle.cw_trace.proofs.Marks.Marking.{before_first, before_second}

pub no_trace : (c : ColumnTable) (t : ℕ) → length c.traces ≤ t → is_trace c t ≡ false
no_trace c t h = ap (λ o. is_some (trace_in o)) (slice_get_past c.traces t h)

half_of : (b : ℕ) → (b ≡ opening_mark (b / 2)) ⊎ (b ≡ closing_mark (b / 2))
half_of b = by_test (nat_eq (b % 2) 0) refl where
  by_test : (t : Bool) → nat_eq (b % 2) 0 ≡ t → (b ≡ opening_mark (b / 2)) ⊎ (b ≡ closing_mark (b / 2))
  by_test true e = inl (let even = eqb-true (b % 2) 0 e in omega (arith, even))
  by_test false e = inr (let odd : b % 2 ≢ 0 = λ h. cc (e, eq-eqb (b % 2) 0 h) in omega (arith, odd))

-- just the marks of traces stand
pub marked : (c : ColumnTable) → AreSound c → (b : ℕ) → has c.brackets b ≡ is_trace c (b / 2)
marked c s b = by_trace (is_trace c (b / 2)) refl where
  by_trace : (x : Bool) → is_trace c (b / 2) ≡ x → has c.brackets b ≡ x
  by_trace false e = false_from_ne_true (has c.brackets b) (λ h. let is = s.only b h in cc (e, is))
  by_trace true e = ⊎_elim
      (λ k. ap (has c.brackets) k ∙ (s.there (b / 2) e).0)
      (λ k. ap (has c.brackets) k ∙ (s.there (b / 2) e).1)
      (half_of b)

pub not_before : (ms : List ℕ) (a b : ℕ) → (has ms a ≡ false) ⊎ (has ms b ≡ false) → stands_before ms a b ≡ false
not_before ms a b h =
    false_from_ne_true (stands_before ms a b) (λ e.
    let first = before_first ms a b e in
    let second = before_second ms a b e in
    elim h [ inl f ↦ cc (f, first) | inr f ↦ cc (f, second) ])
