-- The table of instructions: what each does, its operands, its name, and how many numbers it takes from the operand
-- stack and leaves there.
use Rattle.std.specs.Prelude.{ℕ, zero, suc, List, [], ◌∷◌, Option, Some, None, codes, slice_get}
use Rattle.cw_code.specs.declared.table.Row.{Row}
use Rattle.cw_code.specs.declared.table.Operands.{Operands}
pub use Rattle.cw_code.specs.declared.table.Operands.TheVariants.{Zero as none, One as one, Two as two}
pub use Rattle.cw_code.specs.declared.effects.Operator.{Operator}
pub use Rattle.cw_code.specs.declared.effects.Operator.TheVariants.{Add as add, Sub as sub, Mul as mul, Div as div, Rem as rem, Neg as neg, Not as logical_not, Eq as eq, Ne as ne, Lt as lt, Le as le, Gt as gt, Ge as ge}
pub use Rattle.cw_code.specs.declared.effects.Effect.{Effect}
pub use Rattle.cw_code.specs.declared.effects.Effect.TheVariants.{Push as push, Local as local, Set as set, Load as load, LoadAt as load_at, Store as store, StoreAt as store_at, Lift as lift, Join as join, Jump as jump, JumpZero as jump_zero, Call as call, Ret as ret, Drop as drop_top, Out as out, Begin as begin, End as end, Fork as fork, Sync as sync, Done as done, Tick as tick, Cancel as cancel}

abbrev pub row : Operands → Effect → Row
row operands effect = record { operands = operands; effect = effect }

-- the first row is that of number 1
abbrev pub rows : List Row
rows =
    row one push
    ∷ row one local
    ∷ row one set
    ∷ row one load
    ∷ row two load_at
    ∷ row one store
    ∷ row two store_at
    ∷ row none (join add)
    ∷ row none (join sub)
    ∷ row none (join mul)
    ∷ row none (join div)
    ∷ row none (join rem)
    ∷ row none (lift neg)
    ∷ row none (lift logical_not)
    ∷ row none (join eq)
    ∷ row none (join ne)
    ∷ row none (join lt)
    ∷ row none (join le)
    ∷ row none (join gt)
    ∷ row none (join ge)
    ∷ row one jump
    ∷ row one jump_zero
    ∷ row one call
    ∷ row none ret
    ∷ row none drop_top
    ∷ row none out
    ∷ row none begin
    ∷ row none end
    ∷ row one fork
    ∷ row none sync
    ∷ row none done
    ∷ row none tick
    ∷ row none cancel
    ∷ []

abbrev pub row_at : ℕ → Option Row
row_at zero = None
row_at (suc n) = slice_get rows n

abbrev pub effect_in : Option Row → Option Effect
effect_in None = None
effect_in (Some r) = Some r.effect

-- what the instruction with the number n does
abbrev pub effect_at : ℕ → Option Effect
effect_at n = effect_in (row_at n)

-- how many numbers an effect takes from the stack; a call takes `params`
abbrev pub taken : Effect → ℕ → ℕ
taken push params = 0
taken local params = 0
taken set params = 1
taken load params = 0
taken load_at params = 1
taken store params = 1
taken store_at params = 2
taken (lift o) params = 1
taken (join o) params = 2
taken jump params = 0
taken jump_zero params = 1
taken call params = params
taken ret params = 1
taken drop_top params = 1
taken out params = 1
taken begin params = 0
taken end params = 0
taken fork params = 0
taken sync params = 0
taken done params = 0
taken tick params = 0
taken cancel params = 0

abbrev pub operator_name : Operator → List ℕ
operator_name add = codes "add"
operator_name sub = codes "sub"
operator_name mul = codes "mul"
operator_name div = codes "div"
operator_name rem = codes "rem"
operator_name neg = codes "neg"
operator_name logical_not = codes "not"
operator_name eq = codes "eq"
operator_name ne = codes "ne"
operator_name lt = codes "lt"
operator_name le = codes "le"
operator_name gt = codes "gt"
operator_name ge = codes "ge"

abbrev pub effect_name : Effect → List ℕ
effect_name push = codes "push"
effect_name local = codes "local"
effect_name set = codes "set"
effect_name load = codes "load"
effect_name load_at = codes "loadx"
effect_name store = codes "store"
effect_name store_at = codes "storex"
effect_name (lift o) = operator_name o
effect_name (join o) = operator_name o
effect_name jump = codes "jump"
effect_name jump_zero = codes "jumpz"
effect_name call = codes "call"
effect_name ret = codes "ret"
effect_name drop_top = codes "drop"
effect_name out = codes "out"
effect_name begin = codes "begin"
effect_name end = codes "end"
effect_name fork = codes "fork"
effect_name sync = codes "sync"
effect_name done = codes "done"
effect_name tick = codes "tick"
effect_name cancel = codes "cancel"

abbrev pub left_there : Effect → ℕ
left_there push = 1
left_there local = 1
left_there load = 1
left_there load_at = 1
left_there (lift o) = 1
left_there (join o) = 1
left_there call = 1
left_there e = 0
