-- What is kept of the begin of a block, which strands are inside the block, and which may go back to its begin.
use Rattle.std.specs.Prelude.{◌≡◌, ℕ, zero, suc, ◌-◌, List, [], ◌∷◌, length, drop, ℤ}
use Rattle.cw_code.specs.declared.Limits.{Limits}
use Rattle.cw_code.specs.declared.instruction.Code.{Code}
use Rattle.cw_code.specs.Rules.{faults}
use Rattle.cw_strand.specs.declared.want.Want.{Want}
use Rattle.cw_strand.specs.declared.want.Want.TheVariants.{Begin, End, Fork}
use Rattle.cw_strand.specs.declared.want.Given.{Given}
use Rattle.cw_strand.specs.declared.want.Given.TheVariants.{Nothing}
use Rattle.cw_strand.specs.Strands.{Strands, IsAnswer}
use Rattle.cw_strand.specs.Running.{Standing}
use Rattle.cw_strand.specs.Coded.{Frame, State, strands_of_code}
use Rattle.cw_strand.specs.Standing.{StandsWanting}

-- ## Inside a block

-- how many blocks are begun inside and not ended, after this want is answered
abbrev pub inner_after : Want → ℕ → ℕ
inner_after Begin n = suc n
inner_after End n = n - 1
inner_after w n = n

-- with n blocks begun inside and not ended, the want is not the end of the block itself
abbrev pub StaysIn : Want → ℕ → Type 0
StaysIn End zero = ⊥
StaysIn w n = Unit {0}

module _ {A : Type 0} (s : Strands A) where
  -- Inside a block are: the strand that wants its begin, after the answer; a strand inside after an answer, except that
  -- to the block's own end; the right strand of a fork inside; and the strand that forked, after its two strands are
  -- joined, wherever these are. `forks` says of how many forks inside it is the right strand, `inner` how many blocks
  -- are begun inside and not ended.
  pub data Inside (begin : A) : (forks inner : ℕ) → A → Type 0 where
    begun : Inside begin 0 0 (s.answer begin Nothing)
    answered : {forks inner : ℕ} {a : A} → Inside begin forks inner a → (given : Given) → IsAnswer s.elements (s.want a) given → StaysIn (s.want a) inner
        → Inside begin forks (inner_after (s.want a) inner) (s.answer a given)
    goes_right : {forks inner : ℕ} {a : A} → Inside begin forks inner a → s.want a ≡ Fork → Inside begin (suc forks) inner (s.right a)
    joins : {forks inner : ℕ} {right : A} → Inside begin (suc forks) inner right → StaysIn (s.want right) inner → (left : A)
        → Inside begin forks (inner_after (s.want right) inner) (s.joined right left)

-- ## What is kept

-- The function that began the block, as it was there; how many functions wait for it; how many scopes are open around
-- the block; what was spent and counted; and where the left strand of the newest fork begins.
pub record Kept : Type 0 where
  pub place : ℕ
  pub locals : List ℤ
  pub callers : ℕ
  pub scopes : ℕ
  pub fuel : ℕ
  pub size : ℕ
  pub beside : ℕ

abbrev pub kept_of : State → Kept
kept_of s = record {
  place = s.current.place;
  locals = s.current.locals;
  callers = length s.callers;
  scopes = length s.scopes - 1;
  fuel = s.fuel;
  size = s.size;
  beside = s.beside;
}

-- ## Going back

-- the lowest n elements
abbrev pub lowest : {X : Type 0} → ℕ → List X → List X
lowest n xs = drop (length xs - n) xs

-- What was below the begin of a block is still there: the functions that waited, with the block's function on them,
-- which has as many locals as then; and the scopes around the block, with the block's own on them.
pub record StillStands (start now : State) : Type 0 where
  pub function : Frame
  pub functions : lowest (suc (length start.callers)) (now.current ∷ now.callers) ≡ function ∷ start.callers
  pub locals : length function.locals ≡ length start.current.locals
  pub forks : ℕ
  pub scopes : lowest (length start.scopes) now.scopes ≡ forks ∷ drop 1 start.scopes
  pub limits : now.limits ≡ start.limits

-- the two states are the same, whatever each spent and counted
abbrev pub StandsLike : (now there : State) → Type 0
StandsLike now there = now ≡ record there { fuel = now.fuel; size = now.size }

-- `kept` was kept at the begin of a block of a program. The strand is in the state of one that is inside the block and
-- does not want the block's own end, except for what it spent and counted: a join to it changes nothing else.
pub record MayGoBack (kept : Kept) (now : State) : Type 0 where
  pub code : Code
  pub sound : faults code ≡ []
  pub main : ℕ
  pub words : List ℤ
  pub limits : Limits
  pub begin : Standing State
  pub wants : begin.want ≡ Begin
  pub stands : StandsWanting code Begin begin.state
  pub is_kept : kept ≡ kept_of begin.state
  pub there : Standing State
  pub forks : ℕ
  pub inner : ℕ
  pub inside : Inside (strands_of_code code main words limits) begin forks inner there
  pub stays : StaysIn there.want inner
  pub like : StandsLike now there.state
