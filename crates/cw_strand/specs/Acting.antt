-- What a step leads to, in the words of the code.
use Rattle.std.specs.Prelude.{◌≡◌, ◌<◌, ◌≤◌, ◌+◌, ◌^◌, ℕ, [], ◌∷◌, length, drop, slice_get, Some}
use Rattle.cw_code.specs.declared.instruction.Func.{Func}
use Rattle.cw_code.specs.declared.instruction.Instr.{Instr}
use Rattle.cw_code.specs.declared.instruction.Code.{Code}
use Rattle.cw_code.specs.declared.effects.Effect.{Effect}
use Rattle.cw_code.specs.declared.effects.Effect.TheVariants.{Local as local, Set as set, Load as load, LoadAt as load_at, Store as store, StoreAt as store_at, Lift as lift, Join as join, JumpZero as jump_zero, Call as call, Ret as ret, Drop as drop_top, Out as out, Fork as fork}
use Rattle.cw_strand.specs.declared.led.Led.{Led}
use Rattle.cw_strand.specs.declared.led.Led.TheVariants.{On, Wants}
use Rattle.cw_strand.specs.Running.{on, wants}
use Rattle.cw_strand.specs.Standing.{NoneOver}
use Rattle.cw_strand.specs.Coded.{State, Step, act, locals_for, index}

abbrev pub led_to : Led → State → Step
led_to On s = on s
led_to (Wants w) s = wants w s

-- An instruction with the effect e takes a strand from the state s to t, where p is the place behind it and l is what it leads to.
abbrev pub TakesEffect : Code → Effect → Instr → ℕ → State → Led → State → Type 0
TakesEffect code e i p s l t = act code e i p s.current.operands s ≡ led_to l t

-- the arguments are there, and there are at least as many locals
pub record HasArguments (f : Func) (s : State) : Type 0 where
  pub room : f.params ≤ length s.current.operands
  pub fits : f.params ≤ f.locals

-- the function has begun, and its caller waits, to go on at the place p
abbrev pub function_entered : Func → ℕ → State → State
function_entered f p s = record s {
  current = record { place = f.start; operands = []; locals = locals_for f s.current.operands };
  callers = record { place = p; operands = drop f.params s.current.operands; locals = s.current.locals } ∷ s.callers;
  scopes = 0 ∷ s.scopes;
}

-- what an instruction with this effect needs of the strand
abbrev pub Needs : Code → Effect → Instr → State → Type 0
Needs c local i s = index i.a < length s.current.locals
Needs c set i s = (index i.a < length s.current.locals) × (0 < length s.current.operands)
Needs c load i s = index i.a < 2 ^ 32
Needs c load_at i s = (index i.a + i.b ≤ 2 ^ 32) × (0 < length s.current.operands)
Needs c store i s = (index i.a < 2 ^ 32) × (0 < length s.current.operands)
Needs c store_at i s = (index i.a + i.b ≤ 2 ^ 32) × (1 < length s.current.operands)
Needs c (lift o) i s = 0 < length s.current.operands
Needs c (join o) i s = 1 < length s.current.operands
Needs c jump_zero i s = 0 < length s.current.operands
Needs c call i s = (index i.a < length c.funcs) × ((f : Func) → slice_get c.funcs (index i.a) ≡ Some f → HasArguments f s)
Needs c ret i s = 0 < length s.current.operands
Needs c drop_top i s = 0 < length s.current.operands
Needs c out i s = 0 < length s.current.operands
Needs c fork i s = NoneOver s.size s.scopes
Needs c e i s = Unit {0}
