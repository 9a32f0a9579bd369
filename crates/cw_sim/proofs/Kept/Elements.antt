-- What a cancel puts back names elements of the cells: it answers a strand.
use Rattle.std.proofs.Common.{◌≡◌, ℕ, ◌≤◌, List, [], ◌∷◌, arith, true, nat_lt}
use Rattle.std.specs.List.{list_all}
use Rattle.std.proofs.lemmas.Bool.{and_parts, ltb-true}
use Rattle.cw_code.specs.declared.Back.{Back}
use Rattle.cw_strand.specs.Strands.{AreElements}

pub elements_named : (k n : ℕ) → k ≤ n → (back : List Back) → list_all (λ b. nat_lt b.cell k) back ≡ true → AreElements n back
elements_named k n le [] h = tt
elements_named k n le (b ∷ bs) h =
    let z = and_parts (nat_lt b.cell k) (list_all (λ b. nat_lt b.cell k) bs) h in
    let low = ltb-true b.cell k z.0 in
    (omega (arith, le, low), elements_named k n le bs z.1)
