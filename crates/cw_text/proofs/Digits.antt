-- What digits say.
use Rattle.std.proofs.Common.{◌≡◌, ℕ, ◌+◌, ◌-◌, ◌*◌, ◌<◌, ◌≤◌, List, [], ◌∷◌, length, get_or, drop, drop-cons, add-one, refl, arith}
use Rattle.std.specs.List.{fold}

-- what a number and the digits behind it say
abbrev pub value_on : ℕ → List ℕ → ℕ
value_on n ds = fold (λ n d. 10 * n + (d - 48)) n ds

pub value_on_grows : (n : ℕ) (ds : List ℕ) → n ≤ value_on n ds
value_on_grows n [] = omega arith
value_on_grows n (d ∷ ds) = omega (arith, value_on_grows (10 * n + (d - 48)) ds)

-- one digit more
pub value_on_step : (n : ℕ) (ds : List ℕ) (i : ℕ) → i < length ds → value_on n (drop i ds) ≡ value_on (10 * n + (get_or ds i 0 - 48)) (drop (i + 1) ds)
value_on_step n ds i below = rw (add-one, drop-cons ds i 0) refl

-- a digit that stands behind a number makes it so great at least
pub value_on_next : (n : ℕ) (ds : List ℕ) (i : ℕ) → i < length ds → 10 * n + (get_or ds i 0 - 48) ≤ value_on n (drop i ds)
value_on_next n ds i below = omega (arith, value_on_step n ds i below, value_on_grows (10 * n + (get_or ds i 0 - 48)) (drop (i + 1) ds))
