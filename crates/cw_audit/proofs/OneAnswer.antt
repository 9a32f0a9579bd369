-- No sheet has two answers.
use Rattle.std.proofs.Common.{◌≡◌, ℕ, ◌<◌, refl, ap, arith, ◌⊎◌, inl, inr}
use Rattle.cw_sheet.specs.Contents.{Contents}
use Rattle.cw_audit.specs.declared.findings.Audit.TheVariants.{Sound, Broken}
use Rattle.cw_audit.specs.Audits.{HoldBefore, IsBroken}
use Rattle.cw_audit.specs.Laws.{AuditsAreOne}

-- a part that does not hold is not before part n
not_before : (c : Contents) (n m : ℕ) → HoldBefore c n → IsBroken c m → m < n → ⊥
not_before c n m before (p, is, broken) less = broken (before p (omega (arith, is)))

less_or : (n m : ℕ) → (n ≡ m) ⊎ ((n < m) ⊎ (m < n))
less_or n m = grind arith

pub audits_are_one : AuditsAreOne
audits_are_one c Sound Sound h g = refl
audits_are_one c Sound (Broken m) h g = let (p, is, broken) = g.1 in absurd (broken (h p))
audits_are_one c (Broken n) Sound h g = let (p, is, broken) = h.1 in absurd (broken (g p))
audits_are_one c (Broken n) (Broken m) h g = by (less_or n m) where
  by : (n ≡ m) ⊎ ((n < m) ⊎ (m < n)) → Broken n ≡ Broken m
  by (inl e) = ap (λ (k : ℕ). Broken k) e
  by (inr (inl less)) = absurd (not_before c m n g.0 h.1 less)
  by (inr (inr less)) = absurd (not_before c n m h.0 g.1 less)
