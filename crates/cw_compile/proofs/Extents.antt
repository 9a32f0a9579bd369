-- The elements of cells, by their names.
use Rattle.std.proofs.Common.{◌≡◌, ℕ, Bool, true, false, cond, List, [], ◌∷◌, Option, Some, refl}
use Rattle.std.specs.Option.{option_map}
use Rattle.std.specs.Str.{bytes_eq}
use Rattle.cw_code.specs.declared.CellInfo.{CellInfo}
use Rattle.cw_strand.specs.Meaning.{cell_of, element_of}
use Rattle.cw_compile.specs.declared.elements.Extent.{Extent}
use Rattle.cw_compile.specs.Numbered.{extent_of}

first_or : (b : Bool) (c : CellInfo) (o : Option CellInfo) (e : Option ℕ) → e ≡ option_map (λ (x : Extent). x.base) (option_map extent_of o) → cond b (Some c.base) e ≡ option_map (λ (x : Extent). x.base) (option_map extent_of (cond b (Some c) o))
first_or true c o e is = refl
first_or false c o e is = is

-- a name stands for the first element of its cell
pub first_element : (cells : List CellInfo) (n : List ℕ) → element_of cells n ≡ option_map (λ (x : Extent). x.base) (option_map extent_of (cell_of cells n))
first_element [] n = refl
first_element (c ∷ cells) n = first_or (bytes_eq n c.name) c (cell_of cells n) (element_of cells n) (first_element cells n)
