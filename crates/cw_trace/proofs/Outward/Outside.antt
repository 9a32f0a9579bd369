-- The walk outward, as columns are added and forks are split.
use Rattle.std.proofs.Common.{◌≡◌, ◌≢◌, ℕ, zero, suc, ◌+◌, ◌<◌, ◌≤◌, List, ◌∷◌, refl, ap, sym, ◌∙◌, arith, Bool, true, false, Option, Some, None, nat_eq, inl, inr, eq-eqb}
use Rattle.std.specs.Prelude.{◌⊎◌, ◌%◌, ◌==◌, slice_index, if◌then◌else◌}
use Rattle.std.proofs.lemmas.Bool.{ne_eqb, cases_eq}
use Rattle.cw_tree.specs.Walks.{has}
use Rattle.cw_trace.specs.Columns.{left_column_of}
use Rattle.cw_trace.specs.Segments.{outward}
use Rattle.cw_trace.proofs.Marks.Edits.{has_cons_same, has_cons_other}
use Rattle.cw_trace.proofs.Segments.Lines.{left_of_odd, left_of_cases}

-- the same without one fork
abbrev pub except : ℕ → Option ℕ → Option ℕ
except f None = None
except f (Some s) = if s == f then None else Some s

module _ (cuts ps : List ℕ) (bound : ℕ) (rooted : (i : ℕ) → 0 < i → i < bound → slice_index ps i < i) where
  -- the walk looks at smaller columns alone, and as many steps as there are columns are enough
  pub outward_alike : (qs : List ℕ) → ((i : ℕ) → i < bound → slice_index qs i ≡ slice_index ps i) → (k j p : ℕ) → p < bound → p ≤ k → p ≤ j → outward cuts qs k p ≡ outward cuts ps j p
  outward_alike qs same zero zero p b h g = refl
  outward_alike qs same zero (suc j) zero b h g = refl
  outward_alike qs same zero (suc j) (suc n) b h g = absurd (omega arith)
  outward_alike qs same (suc k) zero zero b h g = refl
  outward_alike qs same (suc k) zero (suc n) b h g = absurd (omega arith)
  outward_alike qs same (suc k) (suc j) zero b h g = refl
  outward_alike qs same (suc k) (suc j) (suc n) b h g =
      let low : slice_index ps (suc n) < suc n = rooted (suc n) (omega arith) b in
      ap (λ x. if has cuts (left_column_of (suc n)) then None else if suc n % 2 == 1 then Some (suc n) else x)
      (ap (outward cuts qs k) (same (suc n) b) ∙ outward_alike qs same k j (slice_index ps (suc n)) (omega arith) (omega arith) (omega arith))

  -- once fork f is split, the walk ends there
  pub outward_cut : (f : ℕ) → f % 2 ≡ 1 → has cuts f ≡ false → ((i : ℕ) → 0 < i → i < bound → slice_index ps i ≢ f + 1) → (k p : ℕ) → p < bound → p ≢ f + 1 → outward (f ∷ cuts) ps k p ≡ except f (outward cuts ps k p)
  outward_cut f odd uncut none zero p h n = refl
  outward_cut f odd uncut none (suc k) zero h n = refl
  outward_cut f odd uncut none (suc k) (suc m) h n =
      by_fork (cases_eq (left_column_of (suc m)) f)
      (let low : slice_index ps (suc m) < suc m = rooted (suc m) (omega arith) h in outward_cut f odd uncut none k (slice_index ps (suc m)) (omega arith) (none (suc m) (omega arith) h)) where
        here : (p : ℕ) → p ≡ f → (if p % 2 == 1 then Some p else outward cuts ps k (slice_index ps p)) ≡ Some p
        here p e = ap (λ b. if b then Some p else outward cuts ps k (slice_index ps p)) (eq-eqb (p % 2) 1 (ap (λ x. x % 2) e ∙ odd))

        other : (a b : Bool) → nat_eq (suc m) f ≡ false → outward (f ∷ cuts) ps k (slice_index ps (suc m)) ≡ except f (outward cuts ps k (slice_index ps (suc m)))
            → (if a then None else if b then Some (suc m) else outward (f ∷ cuts) ps k (slice_index ps (suc m))) ≡ except f (if a then None else if b then Some (suc m) else outward cuts ps k (slice_index ps (suc m)))
        other true b e more = refl
        other false true e more = sym (ap (λ z. if z then None else Some (suc m)) e)
        other false false e more = more

        by_fork : (left_column_of (suc m) ≡ f) ⊎ (left_column_of (suc m) ≢ f) → outward (f ∷ cuts) ps k (slice_index ps (suc m)) ≡ except f (outward cuts ps k (slice_index ps (suc m))) → outward (f ∷ cuts) ps (suc k) (suc m) ≡ except f (outward cuts ps (suc k) (suc m))
        by_fork (inl e) more = elim (left_of_cases (suc m) (omega arith)) [
          | inr z ↦ absurd (n (omega (arith, e, z)))
          | inl z ↦
              ap (λ b. if b then None else if suc m % 2 == 1 then Some (suc m) else outward (f ∷ cuts) ps k (slice_index ps (suc m))) (ap (has (f ∷ cuts)) e ∙ has_cons_same cuts f)
              ∙ sym (ap (except f)
              (ap (λ b. if b then None else if suc m % 2 == 1 then Some (suc m) else outward cuts ps k (slice_index ps (suc m))) (ap (has cuts) e ∙ uncut)
              ∙ here (suc m) (z ∙ e))
              ∙ ap (λ b. if b then None else Some (suc m)) (eq-eqb (suc m) f (z ∙ e)))
        ]
        by_fork (inr ne) more =
            ap (λ b. if b then None else if suc m % 2 == 1 then Some (suc m) else outward (f ∷ cuts) ps k (slice_index ps (suc m))) (has_cons_other cuts f (left_column_of (suc m)) ne)
            ∙ other (has cuts (left_column_of (suc m))) (suc m % 2 == 1) (ne_eqb (suc m) f (λ e. ne (ap left_column_of e ∙ left_of_odd f odd))) more
