-- The numbers of strands and of forks in plain trees are counts: how these grow.
use Rattle.std.proofs.Common.{◌≡◌, ℕ, zero, suc, ◌+◌, ◌<◌, ◌≤◌, ap, ◌∙◌, arith, Bool, true, inl, inr}
use Rattle.std.specs.Prelude.{◌⊎◌}
use Rattle.std.proofs.lemmas.Bool.{cases_eq, cases_lt}
use Rattle.cw_tree.specs.ForkCounts.{one_if}
use Rattle.cw_tree.proofs.Counting.{count, count_step}

pub count_next : (p : ℕ → Bool) (n : ℕ) → count p (n + 1) ≡ count p n + one_if (p n)
count_next p n = (let next : n + 1 ≡ suc n = omega arith in ap (count p) next ∙ count_step p n)

count_mono : (p : ℕ → Bool) (i j : ℕ) → i ≤ j → count p i ≤ count p j
count_mono p i zero h = let e : count p i ≡ count p zero = (let z : i ≡ zero = omega arith in ap (count p) z) in omega (arith, e)
count_mono p i (suc j) h =
    by_case (cases_eq i (suc j)) (λ l. count_mono p i j l) where
      by_case : (i ≡ suc j) ⊎ (i ≡ suc j → ⊥) → (i ≤ j → count p i ≤ count p j) → count p i ≤ count p (suc j)
      by_case (inl z) more = let e : count p i ≡ count p (suc j) = ap (count p) z in omega (arith, e)
      by_case (inr ne) more = omega (arith, more (omega arith), count_step p j)

pub count_rises : (p : ℕ → Bool) (i j : ℕ) → p i ≡ true → i < j → count p i < count p j
count_rises p i j e h = let one : one_if (p i) ≡ 1 = ap one_if e in omega (arith, one, count_step p i, count_mono p (suc i) j (omega arith))

-- two numbers that pass are one if the same count comes before each
pub count_apart : (p : ℕ → Bool) (i j : ℕ) → p i ≡ true → p j ≡ true → count p i ≡ count p j → i ≡ j
count_apart p i j e f same =
    elim (cases_lt i j) [
      | inl l ↦ absurd (omega (arith, count_rises p i j e l, same))
      | inr g ↦ elim (cases_lt j i) [ inl l ↦ absurd (omega (arith, count_rises p j i f l, same)) | inr k ↦ omega arith ]
    ]
