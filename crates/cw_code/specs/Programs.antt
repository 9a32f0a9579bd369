-- Programs: their code, their cells and where they begin.
use Rattle.std.specs.Prelude.{◌≡◌, ℕ, zero, suc, ◌+◌, ◌<◌, Bool, true, false, List, [], ◌∷◌, length, Option, Some}
use Rattle.std.specs.List.{list_any}
use Rattle.cw_code.specs.declared.CellInfo.{CellInfo}
use Rattle.cw_code.specs.declared.instruction.Code.{Code}
use Rattle.cw_code.specs.Table.{Effect, cancel}
use Rattle.cw_code.specs.Rules.{effect_of}

abbrev pub is_cancel : Option Effect → Bool
is_cancel (Some cancel) = true
is_cancel e = false

-- an instruction of the code is a cancel, whether it is reached or not
abbrev pub cancels : Code → Bool
cancels c = list_any (λ i. is_cancel (effect_of i)) c.instrs

-- how many elements a cell has; a plain one has one
abbrev pub count_of_elements : CellInfo → ℕ
count_of_elements c = count c.len where
  count : ℕ → ℕ
  count zero = 1
  count (suc n) = suc n

-- The elements of the cells have the numbers from `first` to before `past`, in order. The base of each cell is the
-- number of its first element.
abbrev pub AreNumbered : ℕ → List CellInfo → ℕ → Type 0
AreNumbered first [] past = first ≡ past
AreNumbered first (c ∷ cs) past = (c.base ≡ first) × AreNumbered (first + count_of_elements c) cs past

-- Main is a function of the code. The elements of the cells are numbered from 0 to before the number of cells that the code may name.
pub record IsProgramCode (code : Code) (cells : List CellInfo) (main : ℕ) : Type 0 where
  pub main_there : main < length code.funcs
  pub numbered : AreNumbered 0 cells code.cells
