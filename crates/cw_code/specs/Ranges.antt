-- The options of a run whose values are numbers: the name, the range and the default of each.
use Rattle.std.specs.Prelude.{◌≡◌, ◌^◌, List, ℕ, codes}
use Rattle.cw_code.specs.declared.Limits.{Limits}
use Rattle.cw_code.specs.declared.ranges.NumberRange.{NumberRange}
use Rattle.cw_code.specs.declared.ranges.TheConstants.{ABORTS, FUEL, MOVES, SIZE, STRANDS, WORKERS}

-- an option whose value is a number: its name, its least value, its greatest value, and its default
pub record NumberOption : Type 0 where
  pub name : List ℕ
  pub least : ℕ
  pub most : ℕ
  pub default : ℕ

abbrev pub fuel_option : NumberOption
fuel_option = record { name = codes "fuel"; least = 1; most = 10 ^ 9; default = 10 ^ 6 }

abbrev pub size_option : NumberOption
size_option = record { name = codes "size"; least = 1; most = 10 ^ 7; default = 10 ^ 6 }

-- the most attempts that a block or an access may have
abbrev pub aborts_option : NumberOption
aborts_option = record { name = codes "aborts"; least = 1; most = 10 ^ 9; default = 100000 }

-- the most strands that may have columns
abbrev pub strands_option : NumberOption
strands_option = record { name = codes "strands"; least = 1; most = 10 ^ 6; default = 262144 }

abbrev pub moves_option : NumberOption
moves_option = record { name = codes "moves"; least = 1; most = 10 ^ 9; default = 10 ^ 7 }

abbrev pub workers_option : NumberOption
workers_option = record { name = codes "workers"; least = 1; most = 64; default = 4 }

-- the option with this name, and with a range and its default
abbrev pub option_of : (name : List ℕ) → NumberRange → NumberOption
option_of name range = record { name = name; least = range.least; most = range.most; default = range.default }

-- The constants of the code are the ranges of the options.
pub record AreRangesOfOptions : Type 0 where
  pub fuel : option_of (codes "fuel") FUEL ≡ fuel_option
  pub size : option_of (codes "size") SIZE ≡ size_option
  pub aborts : option_of (codes "aborts") ABORTS ≡ aborts_option
  pub strands : option_of (codes "strands") STRANDS ≡ strands_option
  pub moves : option_of (codes "moves") MOVES ≡ moves_option
  pub workers : option_of (codes "workers") WORKERS ≡ workers_option

-- the limits of a command that gives none
abbrev pub default_limits : Limits
default_limits = record { fuel = fuel_option.default; size = size_option.default; aborts = aborts_option.default; strands = strands_option.default; moves = moves_option.default }
