-- Ranges of labels. Each begins at a multiple of its size.
use Rattle.std.proofs.Common.{ℕ, ◌+◌, ◌-◌, ◌*◌, ◌/◌, ◌%◌, ◌^◌, ◌<◌, ◌≤◌, ◌≡◌, ◌≢◌, sym, ap, ◌∙◌, subst, arith, inl, inr}
use Rattle.std.proofs.Math.Nat.{div-mul-le_self, mul-div-le, pow-le-pow_right}
use Rattle.std.proofs.lemmas.Bool.{cases_lt}
use Rattle.std.proofs.lemmas.Nat.{le-div, div_below, shr_below, pow-add, mul-le, one_shl}

quotients_rise : (l m size : ℕ) → 0 < size → l ≤ m → l / size ≤ m / size
quotients_rise l m size some h = le-div (l / size) m size some (omega (arith, div-mul-le_self l size, h))

-- a smaller number of another range is below the range
pub below_range : (l m size : ℕ) → 0 < size → l ≤ m → l / size ≢ m / size → l < m / size * size
below_range l m size some h ne = elim (cases_lt l (m / size * size)) [
  | inl less ↦ less
  | inr le ↦ absurd (omega (arith, le-div (m / size) l size some le, quotients_rise l m size some h, ne))
]

-- a greater number of another range is above the range
pub above_range : (l m size : ℕ) → 0 < size → m ≤ l → l / size ≢ m / size → m / size * size + size ≤ l
above_range l m size some h ne = elim (cases_lt l ((m / size + 1) * size)) [
  | inl less ↦ absurd (omega (arith, div_below l size (m / size + 1) some less, quotients_rise m l size some h, ne))
  | inr le ↦ omega (arith, le)
]

-- a range whose size is a power of two ends within the numbers of j + k bits
pub range_within : (label k j : ℕ) → label < 2 ^ (j + k) → label / 2 ^ k * 2 ^ k + 2 ^ k ≤ 2 ^ (j + k)
range_within label k j h = omega (arith, mul-le (label / 2 ^ k + 1) (2 ^ k) (2 ^ j) (2 ^ k) (omega (arith, shr_below label j k h)) (omega arith), pow-add 2 j k)

-- what a range of 4^k labels is to at most 2^k of them
pub record RangeFits (label count size : ℕ) : Type 0 where
  pub some : 0 < size
  pub end : label / size * size + count * ((size - 1) / count) < 2 ^ 64
  pub within : count * ((size - 1) / count) ≤ size
  pub gap : 2 ≤ (size - 1) / count

pub range_fits : (level label count m n : ℕ) → level < 32 → 2 ≤ level → label < 2 ^ 64 → m ≡ (1 * 2 ^ level) % 2 ^ 32 → n ≡ (1 * 2 ^ level) % 2 ^ 32 → 0 < count → count ≤ m → RangeFits label count (m * n)
range_fits level label count m n below two h em en some few = record {
  some = omega (arith, square, large);
  end = omega (arith, within, spread, size, square, large, ap (λ s. label / s * s) size);
  within = omega (arith, spread);
  gap = le-div 2 (m * n - 1) count some (omega (arith, square, few, large, ones));
} where
  whole : (1 * 2 ^ level) % 2 ^ 32 ≡ 2 ^ level
  whole = one_shl level 32 below

  large : 4 ≤ 2 ^ level
  large = pow-le-pow_right {n = 2} (omega arith) {i = 2} {j = level} two

  size : m * n ≡ 2 ^ (level + level)
  size = ap (λ x. x * n) (em ∙ whole) ∙ (ap (λ x. 2 ^ level * x) (en ∙ whole) ∙ sym (pow-add 2 level level))

  ones : m ≡ 2 ^ level
  ones = em ∙ whole

  square : 4 * 2 ^ level ≤ m * n
  square = omega (arith, mul-le 4 (2 ^ level) (2 ^ level) (2 ^ level) large (omega arith), size, pow-add 2 level level)

  spread : count * ((m * n - 1) / count) ≤ m * n - 1
  spread = mul-div-le (m * n - 1) count

  bits : (64 - (level + level)) + (level + level) ≡ 64
  bits = omega arith

  within : label / 2 ^ (level + level) * 2 ^ (level + level) + 2 ^ (level + level) ≤ 2 ^ 64
  within = subst (λ b. label / 2 ^ (level + level) * 2 ^ (level + level) + 2 ^ (level + level) ≤ 2 ^ b) bits (range_within label (level + level) (64 - (level + level)) (subst (λ b. label < 2 ^ b) (sym bits) h))
