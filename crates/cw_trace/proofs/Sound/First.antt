-- The columns of the root alone are sound.
use Rattle.std.proofs.Common.{◌≡◌, ◌/◌, ◌%◌, ◌<◌, ◌≤◌, ℕ, zero, suc, [], ◌∷◌, true, refl, ap, sym, subst, arith, inl, inr, Some}
use Rattle.cw_tree.specs.Walks.{has}
use Rattle.cw_trace.specs.Columns.{ColumnTable, owner, is_trace, outer, first_tier, opening_mark, closing_mark}
use Rattle.cw_trace.specs.Tier.{AreSound}
use Rattle.cw_trace.proofs.Marks.Numbering.{has_cases}

module _ (room : ℕ) where
  abbrev c : ColumnTable
  c = first_tier room

  not_odd : (f : ℕ) → f % 2 ≡ 1 → f < 1 → ⊥
  not_odd f o h = omega arith

  owner_low : (i : ℕ) → i < 1 → owner c i ≤ i
  owner_low zero h = omega arith
  owner_low (suc i) h = absurd (omega arith)

  owned : (i : ℕ) → i < 1 → is_trace c (owner c i) ≡ true
  owned zero h = refl
  owned (suc i) h = absurd (omega arith)

  no_outer : (i o : ℕ) → outer c i ≡ Some o → ⊥
  no_outer zero o e = cc e
  no_outer (suc i) o e = cc e

  there : (t : ℕ) → is_trace c t ≡ true → (has c.brackets (opening_mark t) ≡ true) × (has c.brackets (closing_mark t) ≡ true)
  there zero e = (refl, refl)
  there (suc t) e = absurd (cc e)

  only : (b : ℕ) → has c.brackets b ≡ true → is_trace c (b / 2) ≡ true
  only b h = elim (has_cases 0 (1 ∷ []) b h) [
    | inl e ↦ subst (λ n. is_trace c (n / 2) ≡ true) e refl
    | inr g ↦ elim (has_cases 1 [] b g) [ inl e ↦ subst (λ n. is_trace c (n / 2) ≡ true) e refl | inr k ↦ absurd (cc k) ]
  ]

  pub sound_first : AreSound c
  sound_first = record {
    odd = refl;
    rooted = λ i p h. absurd (omega arith);
    owner_low = owner_low;
    owned = owned;
    pairs = λ f o h. absurd (not_odd f o h);
    outer_low = λ i o e. absurd (no_outer i o e);
    distinct = (refl, (refl, tt));
    count = refl;
    there = there;
    only = only;
  }
