-- Sinks in memory. Such a sink takes what it is given. It tells what it took as long as this fits into its room, and
-- from then on nothing.
use Rattle.std.specs.Prelude.{◌≡◌, ◌≤◌, ℕ, ◌+◌, min, List, [], ◌++◌, length, take, nat_le, Option, Some, None, IfSome, if◌then◌else◌}
use Rattle.std.specs.Option.{unwrap_or}
use Rattle.cw_io.specs.FaultPlan.{Plan}

-- The bytes that a sink took, if it tells them, and for how many bytes it has room in all.
pub record Stock : Type 0 where
  pub written : Option (List ℕ)
  pub room : ℕ

-- nothing was taken yet, and there is room for the given number of bytes
abbrev pub empty_stock : ℕ → Stock
empty_stock room = record { written = Some []; room = room }

-- what a sink with this room tells after it took more bytes
abbrev pub told_within : (room : ℕ) → Option (List ℕ) → (bytes : List ℕ) → Option (List ℕ)
told_within room None bytes = None
told_within room (Some held) bytes = if nat_le (length held + length bytes) room then Some (held ++ bytes) else None

-- the stock after bytes were taken too
abbrev pub stock_after : Stock → List ℕ → Stock
stock_after s bytes = record s { written = told_within s.room s.written bytes }

-- the bytes that the stock tells; none if it tells nothing
abbrev pub told_bytes : Stock → List ℕ
told_bytes s = unwrap_or s.written []

-- If the stock tells its bytes, it has room for n more.
abbrev pub HasRoomFor : Stock → ℕ → Type 0
HasRoomFor s n = IfSome s.written (λ held. length held + n ≤ s.room)

-- A sink took the first n bytes of the piece: all of them, but at most `most`.
pub record TakesFront (most : ℕ) (old new : Stock) (piece : List ℕ) (n : ℕ) : Type 0 where
  pub count : n ≡ min most (length piece)
  pub taken : new ≡ stock_after old (take n piece)

-- A stock whose calls may fail by their numbers, and the most that it takes in one call.
pub record FaultyStock : Type 0 where
  pub stock : Stock
  pub most : ℕ
  pub plan : Plan
