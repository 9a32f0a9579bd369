-- Sources in memory.
use Rattle.std.specs.Prelude.{◌≡◌, ◌==◌, ℕ, min, List, ◌++◌, length, take, drop, Result, Ok, Err, if◌then◌else◌}
use Rattle.cw_io.specs.FaultPlan.{Plan, next_number}

-- The bytes that a source still has, and the most that it gives in one call.
pub record Supply : Type 0 where
  pub left : List ℕ
  pub most : ℕ

-- A supply whose calls may fail, and how many calls gave no byte.
pub record FaultySupply : Type 0 where
  pub supply : Supply
  pub plan : Plan
  pub ends : ℕ

-- A supply whose calls never fail, and how many calls gave no byte.
pub record SureSupply : Type 0 where
  pub supply : Supply
  pub ends : ℕ

-- how many calls have given no byte after a call with this result
abbrev pub ends_after : {E : Type 0} → ℕ → Result ℕ E → ℕ
ends_after ends (Ok n) = if n == 0 then next_number ends else ends
ends_after ends (Err e) = next_number ends

-- The next n bytes went to the front of the buffer: all that are left, but no more than the buffer holds, and no more
-- than one call gives.
pub record GivesNext (old new : Supply) (buffer filled : List ℕ) (n : ℕ) : Type 0 where
  pub count : n ≡ min old.most (min (length buffer) (length old.left))
  pub bytes : filled ≡ take n old.left ++ drop n buffer
  pub left : new.left ≡ drop n old.left
  pub same_most : new.most ≡ old.most
