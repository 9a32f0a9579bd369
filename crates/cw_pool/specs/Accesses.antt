-- What a strand wants of a cell, and what follows a refusal.
use Rattle.std.specs.Prelude.{◌≡◌, ℕ, ℤ, Option, Some, None}
use Rattle.cw_strand.specs.declared.want.Want.{Want}
use Rattle.cw_strand.specs.declared.want.Want.TheVariants.{Load, Store}
use Rattle.cw_tree.specs.declared.conflict.Conflict.{Conflict}
use Rattle.cw_tree.specs.declared.closed.Halt.TheVariants.{Budget}
use Rattle.cw_log.specs.declared.token.Token.{Token}
use Rattle.cw_log.specs.Tokens.{Fells, halted}
use Rattle.cw_body.specs.Bodies.{InBlocks, gave_up}
use Rattle.cw_pool.specs.declared.task.Mode.{Mode}
use Rattle.cw_pool.specs.declared.task.Mode.TheVariants as mode

-- the strand wants to read this cell, or to write that value to it
abbrev pub access_want : (cell : ℕ) → Option ℤ → Want
access_want c None = Load c
access_want c (Some v) = Store c v

abbrev pub WantsNone : Want → Type 0
WantsNone (Load c) = ⊥
WantsNone (Store c v) = ⊥
WantsNone w = Unit {0}

-- the conflict's victim is a block around the strand, unless it is 0, which stands for no victim
abbrev pub MayFell : Token → Conflict → Type 0
MayFell x k = ((k.victim ≡ 0 → ⊥) → Fells x k) × (k.victim ≡ 0 → Fells x k → ⊥)

-- After a refusal with conflict `k`, a strand does one of three things. It tries again; or it goes back to the victim; or it stops,
-- if that was the last attempt.
abbrev pub IsAfter : (budget : ℕ) → Conflict → Mode → (x y : Token) → (body next : InBlocks) → Type 0
IsAfter budget k mode.Goes x y body next = (y ≡ x) × (next ≡ body) × (k.attempt ≡ budget → ⊥) × (Fells x k → ⊥)
IsAfter budget k (mode.Dies to) x y body next = (y ≡ x) × (next ≡ gave_up body) × (k.attempt ≡ budget → ⊥) × Fells x k × (k.victim ≡ to)
IsAfter budget k mode.Stopped x y body next = y ≡ halted x (Budget 0)
IsAfter budget k mode.Waits x y body next = ⊥
