-- Loops over the numbers below a bound.
use Rattle.std.proofs.Common.{◌≡◌, ℕ, suc, ◌-◌, ◌<◌, List, map, ap, ◌∙◌, arith, Bool, true, false, cond, Some, length, get_or}
use Rattle.cw_tree.specs.Nodes.{below, last_below}
use Rattle.cw_tree.proofs.Lists.{length_map_below, get_map_below}

-- ## The last that passes

last_here : (p : ℕ → Bool) (n m : ℕ) → n ≡ suc m → last_below p n ≡ cond (p m) (Some m) (last_below p m)
last_here p n m e = ap (last_below p) e

pub last_found : (p : ℕ → Bool) (n : ℕ) → 0 < n → p (n - 1) ≡ true → last_below p n ≡ Some (n - 1)
last_found p n s e = last_here p n (n - 1) (omega arith) ∙ ap (λ b. cond b (Some (n - 1)) (last_below p (n - 1))) e

pub last_passed : (p : ℕ → Bool) (n : ℕ) → 0 < n → p (n - 1) ≡ false → last_below p n ≡ last_below p (n - 1)
last_passed p n s e = last_here p n (n - 1) (omega arith) ∙ ap (λ b. cond b (Some (n - 1)) (last_below p (n - 1))) e

-- ## A list that has a function's value at each number below a bound

pub table_len : {X : Type 0} (f : ℕ → X) (xs : List X) (k : ℕ) → xs ≡ map f (below k) → length xs ≡ k
table_len f xs k e = ap length e ∙ length_map_below f k

pub table_at : (f : ℕ → ℕ) (xs : List ℕ) (k n : ℕ) → xs ≡ map f (below k) → n < k → get_or xs n 0 ≡ f n
table_at f xs k n e h = ap (λ ys. get_or ys n 0) e ∙ get_map_below f k n 0 h
