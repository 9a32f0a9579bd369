-- What a body keeps for what it stands for: its strand is inside each of the blocks around it, and so is the place where it is, if it
-- is still on its way to its want.
use Rattle.std.specs.Prelude.{◌≡◌, ◌≢◌, ◌≤◌, ◌-◌, ℕ, suc, List, [], ◌∷◌, map}
use Rattle.cw_code.specs.declared.program.Program.{Program}
use Rattle.cw_strand.specs.declared.want.Want.TheVariants as want
use Rattle.cw_strand.specs.Strands.{Strands}
use Rattle.cw_strand.specs.Saving.{Inside, StaysIn}
use Rattle.cw_job.specs.declared.runner.Runner.{Runner}
use Rattle.cw_job.specs.Room.Strands.{StrandState}
use Rattle.cw_job.specs.Room.Runners.{IsRunner, place_of, state_in}
use Rattle.cw_job.specs.Room.Saves.{IsSavedOf, StandsAs}
use Rattle.cw_body.specs.declared.begin.Begin.{Begin}
use Rattle.cw_body.specs.declared.stage.Stage.{Stage}
use Rattle.cw_body.specs.declared.stage.Stage.TheVariants.{Goes, GaveUp, Lost}
use Rattle.cw_body.specs.declared.body.Body.TheInside as fields
use Rattle.cw_body.specs.Bodies.{PendingBegin, InBlocks, strands_of_program}

abbrev pub begin_of : Begin → StrandState
begin_of b = place_of b.at.value

-- a begin as seen from a strand that is the right strand of `level` forks
abbrev pub shown : (level : ℕ) → Begin → PendingBegin
shown level b = record { at = begin_of b; forks = level - b.level }

abbrev pub in_blocks : fields.Inside → InBlocks
in_blocks x = record { program = x.program.value; stage = x.stage.value; state = state_in x.program.value x.runner; begins = map (shown x.level) x.begins }

-- ## Inside each block

module _ (s : Strands StrandState) where
  -- A strand of this level is inside the block of begin `b`, and has begun `inner` blocks inside that it has not ended.
  pub record IsInside (level : ℕ) (there : StrandState) (inner : ℕ) (b : Begin) : Type 0 where
    pub since : b.level ≤ level
    pub inside : Inside s (begin_of b) (level - b.level) inner there

  -- The strand is inside each of these blocks, listed innermost first. Inside each further one, one more block is begun and not ended.
  abbrev pub IsInsideEach : (level : ℕ) → (there : StrandState) → (inner : ℕ) → List Begin → Type 0
  IsInsideEach level there inner [] = Unit {0}
  IsInsideEach level there inner (b ∷ bs) = IsInside level there inner b × IsInsideEach level there (suc inner) bs

  -- A strand with the next want of `next` is at `place`, somewhere inside the block of begin `b`: as if it were `there`. From there it
  -- may go back to that begin, unless that want is the block's own end.
  pub record IsSomewhereInside (level : ℕ) (next place : StrandState) (b : Begin) : Type 0 where
    pub since : b.level ≤ level
    pub there : StrandState
    pub forks : ℕ
    pub inner : ℕ
    pub inside : Inside s (begin_of b) forks inner there
    pub stays : s.want next ≢ want.End → StaysIn (s.want there) inner
    pub like : StandsAs place there

  abbrev pub IsSomewhereInsideEach : (level : ℕ) → (next place : StrandState) → List Begin → Type 0
  IsSomewhereInsideEach level next place [] = Unit {0}
  IsSomewhereInsideEach level next place (b ∷ bs) = IsSomewhereInside level next place b × IsSomewhereInsideEach level next place bs

-- ## The whole

module _ (program : Program) where
  abbrev s : Strands StrandState
  s = strands_of_program program

  -- the begin was saved, and lies inside the blocks around it
  pub record IsKept (b : Begin) (around : List Begin) : Type 0 where
    pub saved : IsSavedOf program b.saved (begin_of b)
    pub begins : s.want (begin_of b) ≡ want.Begin
    pub inside : IsInsideEach s b.level (begin_of b) 0 around

  abbrev pub AreKept : List Begin → Type 0
  AreKept [] = Unit {0}
  AreKept (b ∷ bs) = IsKept b bs × AreKept bs

  -- how a strand in these blocks stands, by its stage
  abbrev pub StandsSo : Stage → (level : ℕ) → Runner → List Begin → Type 0
  StandsSo Goes level x bs = IsRunner program x × IsInsideEach s level (state_in program x) 0 bs × IsSomewhereInsideEach s level (state_in program x) (place_of x) bs
  StandsSo GaveUp level x bs = IsSomewhereInsideEach s level (state_in program x) (place_of x) bs
  StandsSo Lost level x bs = Unit {0}

pub record IsInBlocks (x : fields.Inside) : Type 0 where
  pub kept : AreKept x.program.value x.begins
  pub stands : StandsSo x.program.value x.stage.value x.level x.runner x.begins
