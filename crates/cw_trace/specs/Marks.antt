-- What a caller sees of brackets: their marks in order.
use Rattle.std.specs.Prelude.{ℕ, List, ◌∷◌, [], Option, Some, None}
use Rattle.cw_trace.specs.Columns.{place_after}

pub record Marks : Type 0 where
  -- in order
  pub marks : List ℕ
  -- above each mark
  pub room : ℕ
  -- the label of each mark
  pub labels : List ℕ
  -- the marks that the last insertion gave new labels; 0 may be among them though it has its old one
  pub renumbered : List ℕ

-- the marks with m right after the given one, or first if none is given
abbrev pub with_mark : Option ℕ → ℕ → List ℕ → List ℕ
with_mark None m ms = m ∷ ms
with_mark (Some a) m ms = place_after a (m ∷ []) ms
