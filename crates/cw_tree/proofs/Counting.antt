-- How many of the numbers below a bound pass a test.
use Rattle.std.proofs.Common.{◌≡◌, ◌≢◌, ℕ, zero, suc, ◌+◌, ◌<◌, ◌≤◌, refl, ap, sym, arith, Bool, true, false, inl, inr}
use Rattle.std.specs.Prelude.{◌⊎◌, ◌||◌, count_by}
use Rattle.std.proofs.lemmas.List.Sums.{sum_by_push}
use Rattle.std.proofs.lemmas.Bool.{cases_eq}
use Rattle.cw_tree.specs.Nodes.{below}
use Rattle.cw_tree.specs.ForkCounts.{one_if}

abbrev pub count : (ℕ → Bool) → ℕ → ℕ
count p k = count_by p (below k)

pub count_step : (p : ℕ → Bool) (k : ℕ) → count p (suc k) ≡ count p k + one_if (p k)
count_step p k = sum_by_push (λ n. one_if (p n)) (below k) k

pub count_same : (p q : ℕ → Bool) (k : ℕ) → ((n : ℕ) → n < k → p n ≡ q n) → count p k ≡ count q k
count_same p q zero h = refl
count_same p q (suc k) h =
    let more : count p k ≡ count q k = count_same p q k (λ n l. h n (omega arith)) in
    let here : one_if (p k) ≡ one_if (q k) = ap one_if (h k (omega arith)) in
    omega (arith, more, here, count_step p k, count_step q k)

pub count_none : (p : ℕ → Bool) (k : ℕ) → ((n : ℕ) → n < k → p n ≡ false) → count p k ≡ 0
count_none p zero h = refl
count_none p (suc k) h =
    let more : count p k ≡ 0 = count_none p k (λ n l. h n (omega arith)) in
    let here : one_if (p k) ≡ 0 = ap one_if (h k (omega arith)) in
    omega (arith, more, here, count_step p k)

one_of : (a b : Bool) → (a ≡ true → b ≡ true → ⊥) → one_if (a || b) ≡ one_if a + one_if b
one_of true true h = absurd (h refl refl)
one_of true false h = refl
one_of false true h = refl
one_of false false h = refl

-- a test of either of two that no number passes together
pub count_or : (p q s : ℕ → Bool) (k : ℕ) → ((n : ℕ) → n < k → p n ≡ (q n || s n)) → ((n : ℕ) → n < k → q n ≡ true → s n ≡ true → ⊥) → count p k ≡ count q k + count s k
count_or p q s zero h g = refl
count_or p q s (suc k) h g =
    let more : count p k ≡ count q k + count s k = count_or p q s k (λ n l. h n (omega arith)) (λ n l. g n (omega arith)) in
    let either : one_if (p k) ≡ one_if (q k || s k) = ap one_if (h k (omega arith)) in
    let here : one_if (q k || s k) ≡ one_if (q k) + one_if (s k) = one_of (q k) (s k) (g k (omega arith)) in
    omega (arith, more, either, here, count_step p k, count_step q k, count_step s k)

-- a test that one number alone may pass
pub count_one : (p : ℕ → Bool) (n k : ℕ) → n < k → ((m : ℕ) → m < k → m ≢ n → p m ≡ false) → count p k ≡ one_if (p n)
count_one p n zero h g = absurd (omega arith)
count_one p n (suc k) h g =
    by_case (cases_eq n k) (λ l. count_one p n k l (λ m b. g m (omega arith))) where
      by_case : (n ≡ k) ⊎ (n ≡ k → ⊥) → (n < k → count p k ≡ one_if (p n)) → count p (suc k) ≡ one_if (p n)
      by_case (inl e) more =
          let none : count p k ≡ 0 = count_none p k (λ m l. let ne : m ≢ n = omega arith in g m (omega arith) ne) in
          let here : one_if (p k) ≡ one_if (p n) = ap (λ m. one_if (p m)) (sym e) in
          omega (arith, none, here, count_step p k)
      by_case (inr ne) more =
          let fails : one_if (p k) ≡ 0 = ap one_if (g k (omega arith) (λ e. ne (sym e))) in
          let rest : count p k ≡ one_if (p n) = more (omega arith) in
          omega (arith, rest, fails, count_step p k)

at_most_one : (b : Bool) → one_if b ≤ 1
at_most_one true = omega arith
at_most_one false = omega arith

pub count_le : (p : ℕ → Bool) (k : ℕ) → count p k ≤ k
count_le p zero = omega arith
count_le p (suc k) = omega (arith, count_le p k, count_step p k, at_most_one (p k))

-- where 0 does not pass, fewer pass than there are numbers
pub count_less : (p : ℕ → Bool) (k : ℕ) → p 0 ≡ false → 0 < k → count p k < k
count_less p zero e h = absurd (omega arith)
count_less p (suc zero) e h = let none : one_if (p 0) ≡ 0 = ap one_if e in omega (arith, none, count_step p 0)
count_less p (suc (suc k)) e h = omega (arith, count_less p (suc k) e (omega arith), count_step p (suc k), at_most_one (p (suc k)))

-- no number from k on passes
pub count_past : (p : ℕ → Bool) (k j : ℕ) → k ≤ j → ((n : ℕ) → k ≤ n → n < j → p n ≡ false) → count p j ≡ count p k
count_past p k zero le h = let e : zero ≡ k = omega arith in ap (count p) e
count_past p k (suc j) le h =
    by_case (cases_eq k (suc j)) (λ l. count_past p k j l (λ n a b. h n a (omega arith))) where
      by_case : (k ≡ suc j) ⊎ (k ≡ suc j → ⊥) → (k ≤ j → count p j ≡ count p k) → count p (suc j) ≡ count p k
      by_case (inl e) more = ap (count p) (sym e)
      by_case (inr ne) more =
          let rest : count p j ≡ count p k = more (omega arith) in
          let here : one_if (p j) ≡ 0 = ap one_if (h j (omega arith) (omega arith)) in
          omega (arith, rest, here, count_step p j)
