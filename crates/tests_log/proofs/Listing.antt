-- Serves `listed`: a list that gets cells by rising number.
use Rattle.std.proofs.Common.{◌≡◌, ℕ, ◌+◌, ◌<◌, List, [], ◌∷◌, ◌++◌, length, map, get_or, pos, arith}
use Rattle.std.specs.Prelude.{All}
use Rattle.std.specs.List.{AllPairs}
use Rattle.std.specs.List.Sorted.{IsStrictlyIncreasing}
use Rattle.std.proofs.lemmas.List.{get_or-map, length-map}
use Rattle.std.proofs.lemmas.List.Elements.{All-push}
use Rattle.std.proofs.lemmas.List.Quantifiers.{all_pairs_push}
use Rattle.cw_code.specs.declared.Back.{Back}

-- each cell of the list is below those after it, and all are below `most`
pub record AreRising (most : ℕ) (back : List Back) : Type 0 where
  pub pairs : AllPairs (λ (a b : Back). a.cell < b.cell) back
  pub low : All (λ (b : Back). b.cell < most) back

pub still_rising : (n : ℕ) (back : List Back) → AreRising n back → AreRising (n + 1) back
still_rising n back h = record { pairs = h.pairs; low = λ k d within. let l = h.low k d within in omega arith }

pub one_cell_more : (n : ℕ) (back : List Back) (b : Back) → b.cell ≡ n → AreRising n back → AreRising (n + 1) (back ++ b ∷ [])
one_cell_more n back b same h = record {
  pairs = all_pairs_push (λ (a b : Back). a.cell < b.cell) back b h.pairs (λ k d within. let l = h.low k d within in omega (arith, l, same));
  low = All-push (λ (c : Back). c.cell < n + 1) back b (still_rising n back h).low (omega (arith, same));
}

pub cells_rise : (most : ℕ) (back : List Back) → AreRising most back → IsStrictlyIncreasing (map (λ (b : Back). b.cell) back)
cells_rise most back h k within =
    let f : Back → ℕ = λ b. b.cell in
    let none : Back = record { cell = 0; value = pos 0 } in
    let long : k + 1 < length back = omega (arith, within, length-map back f) in
    let less = h.pairs k (k + 1) none (omega arith) long in
    omega (arith, less, get_or-map f back k none 0 (omega arith), get_or-map f back (k + 1) none 0 long)
