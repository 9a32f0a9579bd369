-- What is left to do, weighed: a step by itself weighs more than all that can still be counted.
use Rattle.std.proofs.Common.{ℕ, ◌+◌, ◌*◌, ◌<◌, ◌≤◌, arith}
use Rattle.std.proofs.Math.Nat.{mul-le-mul_left}

-- less by a smaller weight, whatever is added below the factor
pub lighter : (n v w q r : ℕ) → v < w → q ≤ n + 1 → (n + 2) * v + q < (n + 2) * w + r
lighter n v w q r less low =
    let most : (n + 2) * (v + 1) ≤ (n + 2) * w = mul-le-mul_left (n + 2) (omega (arith, less)) in
    omega (arith, most, low)

pub no_heavier : (n v w q : ℕ) → v ≤ w → (n + 2) * v + q ≤ (n + 2) * w + q
no_heavier n v w q le = omega (arith, mul-le-mul_left (n + 2) le)
