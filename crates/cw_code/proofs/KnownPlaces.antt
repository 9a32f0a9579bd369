-- How many places are known: where no more are known than before, the same are known.
use Rattle.std.proofs.Common.{◌≡◌, ℕ, zero, suc, ◌≤◌, [], ◌∷◌, length, Some, None, refl, arith}
use Rattle.std.specs.Prelude.{slice_index_or}
use Rattle.cw_code.specs.Rules.{Known, Places}

abbrev pub IsKnown : Places → ℕ → Type 0
IsKnown t k = (w : Known) × (slice_index_or t k None ≡ Some w)

-- how many places are known
abbrev pub known_in : Places → ℕ
known_in [] = 0
known_in (None ∷ t) = known_in t
known_in (Some w ∷ t) = suc (known_in t)

pub known_few : (t : Places) → known_in t ≤ length t
known_few [] = omega arith
known_few (None ∷ t) = omega (arith, known_few t)
known_few (Some w ∷ t) = omega (arith, known_few t)

-- what is known in the one is known in the other
abbrev pub IsWithin : Places → Places → Type 0
IsWithin t u = (k : ℕ) → IsKnown t k → IsKnown u k

within_fewer : (t u : Places) → length t ≡ length u → IsWithin t u → known_in t ≤ known_in u
within_fewer [] u same within = omega arith
within_fewer (x ∷ t) [] same within = absurd (omega arith)
within_fewer (None ∷ t) (None ∷ u) same within = within_fewer t u (omega arith) (λ k. within (suc k))
within_fewer (None ∷ t) (Some y ∷ u) same within = omega (arith, within_fewer t u (omega arith) (λ k. within (suc k)))
within_fewer (Some x ∷ t) (None ∷ u) same within = absurd (let h = within 0 (x, refl) in let none : None ≡ Some h.0 = h.1 in cc)
within_fewer (Some x ∷ t) (Some y ∷ u) same within = omega (arith, within_fewer t u (omega arith) (λ k. within (suc k)))

-- where there are no more, they are the same
pub within_same : (t u : Places) → length t ≡ length u → IsWithin t u → known_in u ≤ known_in t → IsWithin u t
within_same [] [] same within few k h = h
within_same [] (y ∷ u) same within few k h = absurd (omega arith)
within_same (x ∷ t) [] same within few k h = absurd (omega arith)
within_same (None ∷ t) (None ∷ u) same within few zero h = h
within_same (None ∷ t) (None ∷ u) same within few (suc k) h = within_same t u (omega arith) (λ j. within (suc j)) few k h
within_same (None ∷ t) (Some y ∷ u) same within few k h = absurd (omega (arith, within_fewer t u (omega arith) (λ j. within (suc j))))
within_same (Some x ∷ t) (None ∷ u) same within few k h = absurd (let g = within 0 (x, refl) in let none : None ≡ Some g.0 = g.1 in cc)
within_same (Some x ∷ t) (Some y ∷ u) same within few zero h = (x, refl)
within_same (Some x ∷ t) (Some y ∷ u) same within few (suc k) h = within_same t u (omega arith) (λ j. within (suc j)) (omega arith) k h
