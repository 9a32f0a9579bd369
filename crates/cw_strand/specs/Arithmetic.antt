-- The operators, on numbers of 64 bits.
use Rattle.std.specs.Prelude.{◌-◌, ◌^◌, Bool, true, false, ◌&&◌, not, Result, Ok, Err, if◌then◌else◌, ℤ, pos, negsuc, ◌+ℤ◌, ◌-ℤ◌, ◌*ℤ◌, neg_ℤ, int_lt, int_le, int_div, int_rem}
use Rattle.std.specs.Ordering.{int_eq}
use Rattle.cw_code.specs.declared.effects.Operator.{Operator}
use Rattle.cw_code.specs.declared.effects.Operator.TheVariants.{Add as add, Sub as sub, Mul as mul, Div as div, Rem as rem, Neg as neg, Not as logical_not, Eq as eq, Ne as ne, Lt as lt, Le as le, Gt as gt, Ge as ge}
use Rattle.cw_code.specs.declared.FaultKind.{FaultKind}
use Rattle.cw_code.specs.declared.FaultKind.TheVariants.{Zero, Overflow}

-- a result outside the numbers of 64 bits is a fault
abbrev pub fitted : ℤ → Result ℤ FaultKind
fitted z = if int_le (negsuc (2 ^ 63 - 1)) z && int_lt z (pos (2 ^ 63)) then Ok z else Err Overflow

abbrev pub truth : Bool → Result ℤ FaultKind
truth true = Ok (pos 1)
truth false = Ok (pos 0)

abbrev pub is_zero : ℤ → Bool
is_zero z = int_eq z (pos 0)

-- the number z, unless the other result is a fault
abbrev pub unless_fault : ℤ → Result ℤ FaultKind → Result ℤ FaultKind
unless_fault z (Ok q) = Ok z
unless_fault z (Err k) = Err k

-- a unary operator; a binary one changes nothing here
abbrev pub one : Operator → ℤ → Result ℤ FaultKind
one neg x = fitted (neg_ℤ x)
one logical_not x = truth (is_zero x)
one o x = Ok x

-- A binary operator. A unary one gives the first operand here. A quotient goes towards zero. A remainder is a fault if the quotient is.
abbrev pub two : Operator → ℤ → ℤ → Result ℤ FaultKind
two add x y = fitted (x +ℤ y)
two sub x y = fitted (x -ℤ y)
two mul x y = fitted (x *ℤ y)
two div x y = if is_zero y then Err Zero else fitted (int_div x y)
two rem x y = if is_zero y then Err Zero else unless_fault (int_rem x y) (fitted (int_div x y))
two eq x y = truth (int_eq x y)
two ne x y = truth (not (int_eq x y))
two lt x y = truth (int_lt x y)
two le x y = truth (int_le x y)
two gt x y = truth (int_lt y x)
two ge x y = truth (int_le y x)
two neg x y = Ok x
two logical_not x y = Ok x
