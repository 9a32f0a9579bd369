-- Memory that is made longer by a cell's elements.
use Rattle.std.proofs.Common.{◌≡◌, ◌≤◌, ◌+◌, ◌-◌, ◌++◌, ℕ, zero, suc, List, length, take, replicate, max, refl, arith}
use Rattle.std.proofs.lemmas.List.{take_all}
use Rattle.cw_strand.specs.Names.{elements}

most_of_one : (n : ℕ) → max n 1 ≡ elements n
most_of_one zero = refl
most_of_one (suc n) = omega arith

-- a list that was made longer
pub resized : {X : Type 0} (xs : List X) (len n m k : ℕ) (x : X) → len ≡ length xs → n ≡ len → m ≡ max k 1 → take (n + m) xs ++ replicate (n + m - len) x ≡ xs ++ replicate (elements k) x
resized xs len n m k x here same more =
    let fits : length xs ≤ n + m = omega arith in
    let rest : n + m - len ≡ elements k = omega (arith, most_of_one k) in
    rw (take_all (n + m) xs fits, rest)
