-- What memory holds.
use Rattle.std.specs.Prelude.{ℕ, ℤ, pos, List, slice_get, unwrap_or}

-- what the memory holds at the element c, or 0 if there is none
abbrev pub value_at : List ℤ → ℕ → ℤ
value_at memory c = unwrap_or (slice_get memory c) (pos 0)
