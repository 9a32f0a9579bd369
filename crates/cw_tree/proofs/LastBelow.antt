-- The last number below a bound that passes a test.
use Rattle.std.proofs.Common.{◌≡◌, ℕ, zero, suc, ◌<◌, ◌≤◌, refl, ap, sym, ◌∙◌, arith, Bool, true, false, cond, Some, None, inl, inr, subst}
use Rattle.std.proofs.lemmas.Bool.{cases_lt}
use Rattle.cw_tree.specs.Nodes.{last_below}
use Rattle.cw_tree.proofs.Lists.{at_or_before, lt_or}

-- b is the last below n
pub record IsLast (p : ℕ → Bool) (n b : ℕ) : Type 0 where
  pub low : b < n
  pub passes : p b ≡ true
  pub none : (c : ℕ) → b < c → c < n → p c ≡ false

pub last_none : (p : ℕ → Bool) (n : ℕ) → ((m : ℕ) → m < n → p m ≡ false) → last_below p n ≡ None
last_none p zero h = refl
last_none p (suc n) h = ap (λ b. cond b (Some n) (last_below p n)) (h n (omega arith)) ∙ last_none p n (λ m l. h m (omega arith))

pub last_from : (p : ℕ → Bool) (k n : ℕ) → k < n → p k ≡ true → ((m : ℕ) → k < m → m < n → p m ≡ false) → last_below p n ≡ Some k
last_from p k zero h e none = absurd (omega arith)
last_from p k (suc n) h e none =
    elim (at_or_before k n h) [
      | inl l ↦ ap (λ b. cond b (Some n) (last_below p n)) (none n l (omega arith)) ∙ last_from p k n l e (λ m a b. none m a (omega arith))
      | inr same ↦ (let P : ℕ → Type 0 = λ m. last_below p (suc m) ≡ Some k in subst P (sym same) (ap (λ b. cond b (Some k) (last_below p k)) e))
    ]

pub last_same : (p q : ℕ → Bool) (n : ℕ) → ((m : ℕ) → m < n → p m ≡ q m) → last_below p n ≡ last_below q n
last_same p q zero h = refl
last_same p q (suc n) h = ap (λ b. cond b (Some n) (last_below p n)) (h n (omega arith)) ∙ ap (cond (q n) (Some n)) (last_same p q n (λ m l. h m (omega arith)))

pub last_past : (p : ℕ → Bool) (k n : ℕ) → k ≤ n → ((m : ℕ) → k ≤ m → m < n → p m ≡ false) → last_below p n ≡ last_below p k
last_past p k zero le f = let e : zero ≡ k = omega arith in ap (last_below p) e
last_past p k (suc n) le f =
    elim (cases_lt n k) [
      | inl h ↦ (let e : suc n ≡ k = omega arith in ap (last_below p) e)
      | inr h ↦
          ap (λ b. cond b (Some n) (last_below p n)) (f n h (omega arith))
          ∙ last_past p k n h (λ m a b. f m a (omega arith))
    ]

pub last_some : (p : ℕ → Bool) (k b : ℕ) → IsLast p k b → last_below p k ≡ Some b
last_some p k b w = last_from p b k w.low w.passes w.none

last_step : (p : ℕ → Bool) (n b : ℕ) (x : Bool) → p n ≡ x → (last_below p n ≡ Some b → IsLast p n b) → cond x (Some n) (last_below p n) ≡ Some b → IsLast p (suc n) b
last_step p n b true is more e =
    let same : n ≡ b = cc e in
    record { low = omega arith; passes = sym (ap p same) ∙ is; none = λ c l h. absurd (omega arith) }
last_step p n b false is more e =
    let w = more e in
    record { low = omega (arith, w.low); passes = w.passes; none = λ c l h. elim (lt_or c n h) [ inl q ↦ ap p q ∙ is | inr g ↦ w.none c l g ] }

pub last_is : (p : ℕ → Bool) (n b : ℕ) → last_below p n ≡ Some b → IsLast p n b
last_is p zero b e = absurd (cc e)
last_is p (suc n) b e = last_step p n b (p n) refl (last_is p n b) e

none_step : (p : ℕ → Bool) (n c : ℕ) (x : Bool) → p n ≡ x → (last_below p n ≡ None → c < n → p c ≡ false) → cond x (Some n) (last_below p n) ≡ None → c < suc n → p c ≡ false
none_step p n c true is more e h = absurd (cc e)
none_step p n c false is more e h = elim (lt_or c n h) [ inl q ↦ ap p q ∙ is | inr g ↦ more e g ]

pub none_is : (p : ℕ → Bool) (n c : ℕ) → last_below p n ≡ None → c < n → p c ≡ false
none_is p zero c e h = absurd (omega arith)
none_is p (suc n) c e h = none_step p n c (p n) refl (none_is p n c) e h
