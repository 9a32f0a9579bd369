-- Where a strand of code is: each of its functions at a place of the code, with the locals and operands that the rules say of that place.
use Rattle.std.specs.Prelude.{◌≡◌, ◌<◌, ◌≤◌, ℕ, suc, Bool, true, false, List, [], ◌∷◌, length, slice_get, Contains, Option, Some, None, ℤ}
use Rattle.cw_code.specs.declared.Limits.{Limits}
use Rattle.cw_code.specs.declared.instruction.Func.{Func}
use Rattle.cw_code.specs.declared.instruction.Instr.{Instr}
use Rattle.cw_code.specs.declared.instruction.Code.{Code}
use Rattle.cw_code.specs.declared.effects.Effect.{Effect}
use Rattle.cw_code.specs.declared.effects.Effect.TheVariants.{Ret as ret, Done as done}
use Rattle.cw_code.specs.Rules.{Situation, blocks_in, effect_of, inside, known_at, places}
use Rattle.cw_strand.specs.declared.want.Want.{Want}
use Rattle.cw_strand.specs.declared.want.Want.TheVariants.{Begin, Fork}
use Rattle.cw_strand.specs.declared.want.Given.{Given}
use Rattle.cw_strand.specs.Running.{stand, on, wants, stuck}
use Rattle.cw_strand.specs.Coded.{Frame, State, Step, left, with_value, runs}

-- a function or a strand ends here
abbrev pub ends : Option Effect → Bool
ends (Some ret) = true
ends (Some done) = true
ends e = false

abbrev pub is_end : Option Instr → Bool
is_end None = false
is_end (Some i) = ends (effect_of i)

abbrev pub NoneOver : ℕ → List ℕ → Type 0
NoneOver most [] = Unit {0}
NoneOver most (n ∷ ns) = (n ≤ most) × NoneOver most ns

module _ (code : Code) where
  -- The place lies in a function of the code, whose situation there has this number of operands. The function has this
  -- number of locals, except at its end, where they may have been freed.
  pub record StandsAt (place locals operands : ℕ) : Type 0 where
    pub func : Func
    pub declared : Contains code.funcs func
    pub within : inside func place ≡ true
    pub situation : Situation
    pub known : known_at func (places code func) place ≡ Some situation
    pub operands_there : situation.height ≡ operands
    pub locals_there : is_end (slice_get code.instrs place) ≡ false → func.locals ≡ locals

  -- each function that waits has one operand more where it goes on: the value that is returned to it
  abbrev pub WaitAt : List Frame → Type 0
  WaitAt [] = Unit {0}
  WaitAt (f ∷ fs) = StandsAt f.place (length f.locals) (suc (length f.operands)) × WaitAt fs

  -- Each function of the strand is at a place of the code, with as many locals as the function has and as many operands
  -- as its situation there says. No scope waits for more forks than were counted.
  pub record StandsIn (s : State) : Type 0 where
    pub current : StandsAt s.current.place (length s.current.locals) (length s.current.operands)
    pub callers : WaitAt s.callers
    pub scopes : NoneOver s.size s.scopes

  -- A block has just begun. The strand is inside a block and has no operand. Inside the scopes that were open, at least
  -- its own, there is one that waits for nothing.
  pub record HasBegun (s : State) : Type 0 where
    pub operands : s.current.operands ≡ []
    pub around : ℕ
    pub scopes : List ℕ
    pub opened : s.scopes ≡ 0 ∷ around ∷ scopes
    pub current : StandsAt s.current.place (length s.current.locals) 0
    pub within : 0 < blocks_in current.situation.parts
    -- nothing is to be written back
    pub back : s.back ≡ []

  -- At its want, `StandsIn` holds of the strand and of the left strand of its fork. At the begin of a block, the block has begun.
  pub record StandsWanting (w : Want) (s : State) : Type 0 where
    pub stands : StandsIn s
    pub beside : w ≡ Fork → StandsIn (left s)
    pub begun : w ≡ Begin → HasBegun s

  -- there is a next step, and the same holds of what it leads to
  abbrev pub StepStands : Step → Type 0
  StepStands (on s) = StandsIn s
  StepStands (wants w s) = StandsWanting w s
  StepStands stuck = ⊥

  -- w is the want that a strand reaches by itself after this answer, and t is its state there, in every run of the code.
  abbrev pub NextFrom : State → Given → Want → State → Type 0
  NextFrom s given w t = (main : ℕ) (words : List ℤ) (limits : Limits) → record { want = w; state = t } ≡ stand (runs code main words limits) (with_value given s)
