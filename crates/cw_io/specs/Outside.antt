-- What a source gives, what a sink takes, and when either may fail.
--
-- A source may tell the bytes that are still to come, and a sink the bytes that it took. `None` means that it does not
-- tell them: a file or a terminal tells nothing. All that is said of bytes here is said of told ones.
use Rattle.std.specs.Prelude.{◌≡◌, ◌⊎◌, ℕ, ◌+◌, ◌-◌, ◌^◌, ◌<◌, ◌≤◌, List, [], ◌++◌, length, take, Option, IsSome, IfSome, IsSomeAnd, Result, IsErr, IsOkAnd}

-- A count rose. A count that has reached its last value counts as risen.
abbrev pub Rose : ℕ → ℕ → Type 0
Rose before after = (before < after) ⊎ (after ≡ 2 ^ 64 - 1)

-- The count of faults never falls, and a call fails only if it rose.
pub record CountsFaults {T E : Type 0} (before after : ℕ) (result : Result T E) : Type 0 where
  pub later : before ≤ after
  pub failed : IsErr result → Rose before after

-- A read gave at least one byte.
abbrev pub GaveBytes : {E : Type 0} → Result ℕ E → Type 0
GaveBytes result = IsOkAnd result (λ n. 0 < n)

-- Counts the reads that gave no byte, failed ones included. Such a read adds one, unless the count has reached its last
-- value. A read that gave a byte adds none.
pub record CountsEnds {E : Type 0} (before after : ℕ) (result : Result ℕ E) : Type 0 where
  pub later : before ≤ after
  pub one : after ≤ before + 1
  pub ended : (GaveBytes result → ⊥) → Rose before after
  pub kept : GaveBytes result → after ≡ before

-- The bytes came first among those that were to come. The rest is still to come.
abbrev pub Takes : (old new : Option (List ℕ)) (bytes : List ℕ) → Type 0
Takes old new bytes = IfSome old (λ xs. IsSomeAnd new (λ ys. xs ≡ bytes ++ ys))

-- All that was to come is still to come.
abbrev pub TakesNothing : (old new : Option (List ℕ)) → Type 0
TakesNothing old new = Takes old new []

-- There is nothing to come.
abbrev pub IsDry : Option (List ℕ) → Type 0
IsDry left = IfSome left (λ xs. xs ≡ [])

-- All that was to come has come.
abbrev pub RunsDry : (old new : Option (List ℕ)) → Type 0
RunsDry old new = IfSome old (λ xs. IsSomeAnd new (λ ys. ys ≡ []))

-- A sink that told its bytes before tells them still.
abbrev pub TellsOn : (old new : Option (List ℕ)) → Type 0
TellsOn old new = IsSome old → IsSome new

-- A sink took n bytes. It says for how many more bytes it goes on telling. If that was n and `rest` more, then it tells
-- still what it told, and it goes on telling for the rest.
abbrev pub KeepsTelling : (before after : ℕ → Type 0) (old new : Option (List ℕ)) → ℕ → Type 0
KeepsTelling before after old new n = (rest : ℕ) → before (n + rest) → TellsOn old new × after rest

-- The sink holds what it held, followed by bytes.
abbrev pub Appends : (old new : Option (List ℕ)) (bytes : List ℕ) → Type 0
Appends old new bytes = IfSome new (λ ys. IsSomeAnd old (λ xs. ys ≡ xs ++ bytes))

-- The sink holds what it held, followed by a front of bytes, but not all of them.
abbrev pub AppendsFront : (old new : Option (List ℕ)) (bytes : List ℕ) → Type 0
AppendsFront old new bytes = (n : ℕ) × (n < length bytes) × Appends old new (take n bytes)
