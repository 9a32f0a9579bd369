-- How the verifier walks over a function, once: what an instruction leaves is expected behind it, whether it is passed or not.
use Rattle.std.specs.Prelude.{◌≡◌, ℕ, zero, suc, ◌+◌, ◌-◌, ◌<◌, List, [], length, Option, Some, None, slice_get, slice_index_or}
use Rattle.cw_code.specs.declared.instruction.Instr.{Instr}
use Rattle.cw_code.specs.declared.instruction.Func.{Func}
use Rattle.cw_code.specs.declared.instruction.Code.{Code}
use Rattle.cw_code.specs.declared.situation.Level.{Level}
use Rattle.cw_code.specs.Table.{Effect, jump_zero}
use Rattle.cw_code.specs.Rules.{Situation, effect_of, operand_faults, faults_here, at_start, onwards, target_of}
use Rattle.cw_code.specs.Nested.{Nested, situation_at}

-- the situation behind an instruction, if one stands there
abbrev pub left_by : Code → Option Instr → Situation → Situation
left_by c None s = s
left_by c (Some i) s = onwards c i (effect_of i) s

-- the situation that is expected at the function's place n
abbrev pub walked : Code → Func → ℕ → Situation
walked c f zero = at_start
walked c f (suc n) = left_by c (slice_get c.instrs (f.start + n)) (walked c f n)

-- an instruction stands at the place p, and breaks no rule there in the situation s, whatever its ways lead to
pub record BreaksNothing (c : Code) (f : Func) (p : ℕ) (s : Situation) : Type 0 where
  pub instr : Instr
  pub there : slice_get c.instrs p ≡ Some instr
  pub operands : operand_faults c f p instr (effect_of instr) ≡ []
  pub here : faults_here c f p instr (effect_of instr) s ≡ []

abbrev pub first_level : Level
first_level = record { height = 0; nesting = 0 }

abbrev pub level_noted : List Level → ℕ → Level
level_noted ls n = slice_index_or ls n first_level

-- the level at the target of a jump, from the level at the jump
abbrev pub level_jumped : Option Effect → Level → Level
level_jumped (Some jump_zero) l = record { height = l.height - 1; nesting = l.nesting }
level_jumped e l = l

-- the first n places have levels that a walk expects there, and their instructions break no rule of their own
pub record IsWalked (c : Code) (f : Func) (ns : Nested) (ls : List Level) (n : ℕ) : Type 0 where
  pub long : length ls ≡ n
  pub made : (k : ℕ) → k < n → (level_noted ls k).nesting < length ns
  pub expected : (k : ℕ) → k < n → situation_at ns (level_noted ls k) ≡ walked c f k
  pub stand : (k : ℕ) → k < n → BreaksNothing c f (f.start + k) (walked c f k)

-- the target of an instruction has the level that a jump from l brings there
abbrev pub LeadsWell : Func → List Level → Instr → Level → Type 0
LeadsWell f ls i l = (q : ℕ) → target_of f i (effect_of i) ≡ Some q → level_noted ls (q - f.start) ≡ level_jumped (effect_of i) l

-- so it is at the first n places of the function
abbrev pub AllLead : Code → Func → List Level → ℕ → Type 0
AllLead c f ls n = (k : ℕ) → k < n → (i : Instr) → slice_get c.instrs (f.start + k) ≡ Some i → LeadsWell f ls i (level_noted ls k)
