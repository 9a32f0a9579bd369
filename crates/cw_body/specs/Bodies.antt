-- What a body stands for: a strand of a program in the pending blocks around it; and what each call makes of it.
use Rattle.std.specs.Prelude.{◌≡◌, ◌<◌, ◌+◌, ◌-◌, ℕ, All, List, [], ◌∷◌, map, drop}
use Rattle.cw_code.specs.declared.program.Program.{Program}
use Rattle.cw_strand.specs.declared.want.Want.{Want}
use Rattle.cw_strand.specs.declared.want.Want.TheVariants.{Begin, End}
use Rattle.cw_strand.specs.declared.want.Given.{Given}
use Rattle.cw_strand.specs.declared.want.Given.TheVariants.{Nothing}
use Rattle.cw_strand.specs.Strands.{Strands, IsAnswer}
use Rattle.cw_job.specs.Jobs.{bare_job}
use Rattle.cw_job.specs.Room.Strands.{StrandState, strands_of_job}
use Rattle.cw_body.specs.declared.stage.Stage.{Stage}
use Rattle.cw_body.specs.declared.stage.Stage.TheVariants.{Goes, GaveUp, Lost}

-- The begin of a pending block: the strand there, and of how many forks since then the present strand is the right one.
pub record PendingBegin : Type 0 where
  pub at : StrandState
  pub forks : ℕ

-- A strand of a program: its stage, its state at its next want, to which it may still be on its way, and the begins of the pending
-- blocks around it, innermost first.
pub record InBlocks : Type 0 where
  pub program : Program
  pub stage : Stage
  pub state : StrandState
  pub begins : List PendingBegin

-- the strands of a program, for any words and limits
abbrev pub strands_of_program : Program → Strands StrandState
strands_of_program program = strands_of_job (bare_job program)

-- its next want
abbrev pub want_of : InBlocks → Want
want_of b = (strands_of_program b.program).want b.state

-- the number of elements in the cells of its program
abbrev pub elements_of : InBlocks → ℕ
elements_of b = (strands_of_program b.program).elements

-- ## What calls ask

-- `given` answers an access, an output or a cancel, if the cells have that many elements
abbrev pub AnswersAct : (elements : ℕ) → Want → Given → Type 0
AnswersAct n Begin given = ⊥
AnswersAct n End given = ⊥
AnswersAct n w given = IsAnswer n w given

-- each pending block around it was begun before the fork of which it is the right strand
abbrev pub HasNoBlock : InBlocks → Type 0
HasNoBlock b = All (λ p. 0 < p.forks) b.begins

-- ## What calls make of it

-- it goes on from state `a`, with no block around it
abbrev pub goes_from : Program → StrandState → InBlocks
goes_from program a = record { program = program; stage = Goes; state = a; begins = [] }

abbrev pub one_fork_more : PendingBegin → PendingBegin
one_fork_more p = record { at = p.at; forks = p.forks + 1 }

abbrev pub one_fork_less : PendingBegin → PendingBegin
one_fork_less p = record { at = p.at; forks = p.forks - 1 }

-- the begin as seen `forks` forks further out
abbrev pub seen_from : ℕ → PendingBegin → PendingBegin
seen_from forks p = record { at = p.at; forks = p.forks - forks }

module _ (s : Strands StrandState) where
  -- it was answered, and stands at its next want
  abbrev pub answered : Given → InBlocks → InBlocks
  answered given b = record b { state = s.answer b.state given }

  -- the block whose begin it wants is now around it
  abbrev pub body_in_block : InBlocks → InBlocks
  body_in_block b = record b { state = s.answer b.state Nothing; begins = record { at = b.state; forks = 0 } ∷ b.begins }

  -- the innermost block is no longer around it
  abbrev pub body_behind_block : InBlocks → InBlocks
  body_behind_block b = record b { state = s.answer b.state Nothing; begins = drop 1 b.begins }

  -- the left strand of the fork that it wants has no block around it; the right one has those of the strand that forked
  abbrev pub left_of : InBlocks → InBlocks
  left_of b = goes_from b.program (s.left b.state)

  abbrev pub right_of : InBlocks → InBlocks
  right_of b = record b { state = s.right b.state; begins = map one_fork_more b.begins }

  -- the right strand, at its end, becomes the strand that forked
  abbrev pub joined_body : (right left : InBlocks) → InBlocks
  joined_body right left = record right { state = s.joined right.state left.state; begins = map one_fork_less right.begins }

abbrev pub gave_up : InBlocks → InBlocks
gave_up b = record b { stage = GaveUp }

-- the innermost block is no longer around it, and its state stays
abbrev pub forgot : InBlocks → InBlocks
forgot b = record b { begins = drop 1 b.begins }

-- it stands at the begin of the innermost block again, and goes on from there
abbrev pub back_to : List PendingBegin → InBlocks → InBlocks
back_to [] b = b
back_to (p ∷ ps) b = record b { stage = Goes; state = p.at; begins = map (seen_from p.forks) ps }

abbrev pub went_back : InBlocks → InBlocks
went_back b = back_to b.begins b

-- it is lost: its state is anything, and all else is as before
abbrev pub IsLost : (before now : InBlocks) → Type 0
IsLost before now = now ≡ record before { stage = Lost; state = now.state }
