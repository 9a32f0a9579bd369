-- Lists of rows of which one is changed, or to which one is added.
use Rattle.std.proofs.Common.{◌≡◌, ◌≢◌, ℕ, ◌<◌, List, [], ◌∷◌, ◌++◌, length, refl, ap, sym, ◌∙◌, arith, cond, Option, Some, None, nat_eq, inl, inr, length-append}
use Rattle.std.specs.Prelude.{◌⊎◌, slice_get, slice_set}
use Rattle.std.proofs.lemmas.Bool.{cases_lt, cases_eq, eq-eqb, ne_eqb}
use Rattle.std.proofs.lemmas.List.{length-set}
use Rattle.std.proofs.lemmas.Option.{slice_get_within}
use Rattle.cw_tree.proofs.NextNodes.Growing.{get_append, get_next}
use Rattle.cw_tree.proofs.NextNodes.Closing.{get_set_same, get_set_other}
use Rattle.cw_core.specs.declared.row.Row.{Row}
use Rattle.cw_core.specs.Kept.{with_row_changed}

changed_here : (f : Row → Row) (n : ℕ) (rows : List Row) (r : Row) → slice_get rows n ≡ Some r → with_row_changed f n rows ≡ slice_set rows n (f r)
changed_here f n rows r e = rw e refl

changed_past : (f : Row → Row) (n : ℕ) (rows : List Row) → slice_get rows n ≡ None → with_row_changed f n rows ≡ rows
changed_past f n rows e = rw e refl

pub length_changed : (f : Row → Row) (n : ℕ) (rows : List Row) → length (with_row_changed f n rows) ≡ length rows
length_changed f n rows = by (slice_get rows n) refl where
  by : (o : Option Row) → slice_get rows n ≡ o → length (with_row_changed f n rows) ≡ length rows
  by None e = ap length (changed_past f n rows e)
  by (Some r) e = ap length (changed_here f n rows r e) ∙ length-set rows n (f r)

pub changed_same : (f : Row → Row) (n : ℕ) (rows : List Row) (r : Row) → slice_get rows n ≡ Some r → slice_get (with_row_changed f n rows) n ≡ Some (f r)
changed_same f n rows r e = ap (λ rs. slice_get rs n) (changed_here f n rows r e) ∙ get_set_same rows n r (f r) e

pub changed_other : (f : Row → Row) (n : ℕ) (rows : List Row) (m : ℕ) → m ≢ n → slice_get (with_row_changed f n rows) m ≡ slice_get rows m
changed_other f n rows m ne = by (slice_get rows n) refl where
  by : (o : Option Row) → slice_get rows n ≡ o → slice_get (with_row_changed f n rows) m ≡ slice_get rows m
  by None e = ap (λ rs. slice_get rs m) (changed_past f n rows e)
  by (Some r) e = ap (λ rs. slice_get rs m) (changed_here f n rows r e) ∙ get_set_other rows n m (f r) ne

-- what stands there after the change stood there before, or is what became of it
pub record WasChanged (f : Row → Row) (n : ℕ) (rows : List Row) (m : ℕ) (r : Row) : Type 0 where
  pub before : Row
  pub there : slice_get rows m ≡ Some before
  pub is : r ≡ cond (nat_eq m n) (f before) before

pub was_changed : (f : Row → Row) (n : ℕ) (rows : List Row) (m : ℕ) (r : Row) → slice_get (with_row_changed f n rows) m ≡ Some r → WasChanged f n rows m r
was_changed f n rows m r e =
    elim (cases_eq m n) [
      | inr ne ↦ record { before = r; there = sym (changed_other f n rows m ne) ∙ e; is = ap (λ b. cond b (f r) r) (sym (ne_eqb m n ne)) }
      | inl q ↦ here (slice_get rows n) refl q
    ] where
      here : (o : Option Row) → slice_get rows n ≡ o → m ≡ n → WasChanged f n rows m r
      here None w q = absurd (let a = ap (λ rs. slice_get rs m) (changed_past f n rows w) in let b = ap (slice_get rows) q in cc (a, b, w, e))
      here (Some x) w q =
          let a = changed_same f n rows x w in
          let b = ap (slice_get (with_row_changed f n rows)) q in
          let same : r ≡ f x = cc (a, b, e) in
          record { before = x; there = ap (slice_get rows) q ∙ w; is = same ∙ ap (λ b. cond b (f x) x) (sym (eq-eqb m n q)) }

-- what stands in a list with one more stood there, or is the new one
pub was_there : (rows : List Row) (x : Row) (m : ℕ) (r : Row) → slice_get (rows ++ x ∷ []) m ≡ Some r → ((m < length rows) × (slice_get rows m ≡ Some r)) ⊎ ((m ≡ length rows) × (r ≡ x))
was_there rows x m r e =
    let h = slice_get_within (rows ++ x ∷ []) m r e in
    elim (cases_lt m (length rows)) [
      | inl less ↦ inl (less, sym (get_append rows (x ∷ []) m less) ∙ e)
      | inr le ↦
          (let q : m ≡ length rows = omega (arith, length-append rows (x ∷ [])) in
          let a = ap (slice_get (rows ++ x ∷ [])) q in
          let b = get_next rows x [] in
          let c : r ≡ x = cc (a, b, e) in
          inr (q, c))
    ]
