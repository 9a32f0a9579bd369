-- Locals, elements and functions with their numbers.
use Rattle.std.specs.Prelude.{◌≡◌, ℕ, List, [], ◌∷◌, length, option_map, unwrap_or}
use Rattle.cw_code.specs.declared.CellInfo.{CellInfo}
use Rattle.cw_strand.specs.Meaning.{cell_of}
use Rattle.cw_strand.specs.Compilation.{number_from}
use Rattle.cw_compile.specs.declared.elements.Extent.{Extent}
use Rattle.cw_compile.specs.declared.names.Names.{Names}
use Rattle.cw_compile.specs.Named.{value_named}

-- the number of each local is how many there were before it
abbrev pub NamesAreNumbered : List (List ℕ × ℕ) → Type 0
NamesAreNumbered [] = Unit {0}
NamesAreNumbered (x ∷ xs) = (x.1 ≡ length xs) × NamesAreNumbered xs

-- the elements of a cell
abbrev pub extent_of : CellInfo → Extent
extent_of c = record { base = c.base; len = c.len }

-- the names mean the cells' elements
abbrev pub HasElements : Names Extent → List CellInfo → Type 0
HasElements extents cells = (n : List ℕ) → value_named extents n ≡ option_map extent_of (cell_of cells n)

-- the names mean the functions' numbers; every other name means the number behind the last one
abbrev pub HasNumbers : Names ℕ → ℕ → List (List ℕ) → Type 0
HasNumbers numbers count functions = (n : List ℕ) → unwrap_or (value_named numbers n) count ≡ number_from 0 n functions
