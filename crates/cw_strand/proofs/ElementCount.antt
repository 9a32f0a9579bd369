-- How many elements the cells have.
use Rattle.std.proofs.Common.{◌≡◌, ℕ, ◌+◌, List, [], ◌∷◌, length, refl, arith, length-append}
use Rattle.std.proofs.lemmas.List.{length-replicate}
use Rattle.std.specs.Prelude.{replicate}
use Rattle.cw_text.specs.Syntax.{Declaration, cell, func}
use Rattle.cw_strand.specs.Names.{cells_from, cells_of, elements, first_memory}
use Rattle.cw_strand.specs.Compilation.{elements_in}

count_from : (n : ℕ) (ds : List Declaration) → length (first_memory (cells_from n ds)) ≡ elements_in ds
count_from n [] = refl
count_from n (cell x l len i ∷ ds) =
    omega (arith, length-append (replicate (elements len) i) (first_memory (cells_from (n + elements len) ds)), length-replicate (elements len) i, count_from (n + elements len) ds)
count_from n (func x l ps b ∷ ds) = count_from n ds

pub element_count : (ds : List Declaration) → length (first_memory (cells_of ds)) ≡ elements_in ds
element_count ds = count_from 0 ds
