-- Which calls of an object in memory fail: those whose numbers are listed, and no others.
--
-- Calls are numbered from 1, failed ones included. A number that has reached the last value of a u64 no longer grows.
use Rattle.std.specs.Prelude.{◌≡◌, ◌↔◌, ℕ, ◌+◌, ◌-◌, ◌^◌, min, List, Contains, Result, IsErr, is_err, if◌then◌else◌}

pub record Plan : Type 0 where
  -- the numbers of the calls that fail
  pub failing : List ℕ
  -- how many calls were made
  pub made : ℕ
  -- how many of them failed
  pub failed : ℕ

-- the plan before the first call
abbrev pub fresh_plan : List ℕ → Plan
fresh_plan failing = record { failing = failing; made = 0; failed = 0 }

-- the number after n
abbrev pub next_number : ℕ → ℕ
next_number n = min (n + 1) (2 ^ 64 - 1)

-- the number of the next call is listed
abbrev pub IsListed : Plan → Type 0
IsListed p = Contains p.failing (next_number p.made)

-- how many calls have failed after a call with this result
abbrev pub failed_after : {T E : Type 0} → ℕ → Result T E → ℕ
failed_after failed result = if is_err result then next_number failed else failed

-- One call was made. It failed exactly if its number is listed.
pub record FailsAsListed {T E : Type 0} (old new : Plan) (result : Result T E) : Type 0 where
  pub exactly : IsErr result ↔ IsListed old
  pub same_list : new.failing ≡ old.failing
  pub made : new.made ≡ next_number old.made
  pub failed : new.failed ≡ failed_after old.failed result
