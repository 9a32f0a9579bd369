-- Least numbers from which a test holds.
use Rattle.std.proofs.Common.{ℕ, ◌≤◌, arith}
use Rattle.std.specs.Prelude.{max}
use Rattle.cw_audit.specs.Latest.{IsLeast}

pub least_same : (D E : ℕ → Type 0) (k : ℕ) → ((v : ℕ) → D v → E v) → ((v : ℕ) → E v → D v) → IsLeast D k → IsLeast E k
least_same D E k to from w = record { upward = λ v le. to v (w.upward v le); least = λ v h. w.least v (from v h) }

pub least_none : (D : ℕ → Type 0) → ((v : ℕ) → D v) → IsLeast D 0
least_none D all = record { upward = λ v le. all v; least = λ v h. omega arith }

pub least_number : (a : ℕ) → IsLeast (λ v. a ≤ v) a
least_number a = record { upward = λ v le. le; least = λ v h. h }

pub least_both : (D E : ℕ → Type 0) (a b : ℕ) → IsLeast D a → IsLeast E b → IsLeast (λ v. D v × E v) (max a b)
least_both D E a b d e = record {
  upward = λ v le. (d.upward v (omega arith), e.upward v (omega arith));
  least = λ v h. (let l = d.least v h.0 in let m = e.least v h.1 in omega arith);
}
