-- The text of code: a line for each instruction, with its place, its name and the operands of its row, separated by single spaces.
use Rattle.std.specs.Prelude.{ℕ, ◌+◌, List, [], ◌∷◌, ◌++◌, All, Option, Some, None, IsSome}
use Rattle.std.specs.Fmt.{decimal, signed_decimal}
use Rattle.cw_code.specs.declared.instruction.Instr.{Instr}
use Rattle.cw_code.specs.declared.table.Row.{Row}
use Rattle.cw_code.specs.declared.table.Operands.{Operands}
use Rattle.cw_code.specs.Table.{none, one, two, row_at, effect_name}

-- the operands of an instruction, each after a space
abbrev pub operands : Operands → Instr → List ℕ
operands none i = []
operands one i = 32 ∷ signed_decimal i.a
operands two i = 32 ∷ (signed_decimal i.a ++ 32 ∷ decimal i.b)

-- the name and the operands of an instruction, after a space
abbrev pub instruction_text : Option Row → Instr → List ℕ
instruction_text None i = []
instruction_text (Some r) i = 32 ∷ (effect_name r.effect ++ operands r.operands i)

abbrev pub instruction_line : ℕ → Instr → List ℕ
instruction_line p i = decimal p ++ (instruction_text (row_at i.op) i ++ 10 ∷ [])

-- the lines of instructions, from the place p on
abbrev pub lines_from : ℕ → List Instr → List ℕ
lines_from p [] = []
lines_from p (i ∷ is) = instruction_line p i ++ lines_from (p + 1) is

-- each operation is in the table
abbrev pub HaveRows : List Instr → Type 0
HaveRows is = All (λ i. IsSome (row_at i.op)) is
