-- Instructions by their names.
use Rattle.std.specs.Prelude.{ℕ, ℤ, pos}
use Rattle.cw_code.specs.declared.instruction.Instr.{Instr}

-- an instruction without operands, with the number n in the table
abbrev pub plain : ℕ → Instr
plain n = record { op = n; a = pos 0; b = 0 }

abbrev pub with_a : ℕ → ℕ → Instr
with_a n a = record { op = n; a = pos a; b = 0 }

abbrev pub push : ℤ → Instr
push z = record { op = 1; a = z; b = 0 }

abbrev pub local : ℕ → Instr
local = with_a 2

abbrev pub set : ℕ → Instr
set = with_a 3

abbrev pub load : ℕ → Instr
load = with_a 4

abbrev pub store : ℕ → Instr
store = with_a 6

-- loads an element of the `len` cells from c on
abbrev pub load_at : ℕ → ℕ → Instr
load_at c len = record { op = 5; a = pos c; b = len }

abbrev pub store_at : ℕ → ℕ → Instr
store_at c len = record { op = 7; a = pos c; b = len }

abbrev pub jump : ℕ → Instr
jump = with_a 21

-- jumps if the operand is 0
abbrev pub jump_zero : ℕ → Instr
jump_zero = with_a 22

abbrev pub call : ℕ → Instr
call = with_a 23

abbrev pub ret : Instr
ret = plain 24

abbrev pub discard : Instr
discard = plain 25

abbrev pub show : Instr
show = plain 26

abbrev pub begin : Instr
begin = plain 27

abbrev pub end : Instr
end = plain 28

abbrev pub fork : ℕ → Instr
fork = with_a 29

abbrev pub wait : Instr
wait = plain 30

abbrev pub done : Instr
done = plain 31

abbrev pub tick : Instr
tick = plain 32

abbrev pub cancel : Instr
cancel = plain 33
