-- What a caller sees of a tier.
use Rattle.std.specs.Prelude.{ℕ, List}
use Rattle.cw_trace.specs.Columns.{ColumnTable}

pub record Traces : Type 0 where
  pub columns : ColumnTable
  -- the label of each mark
  pub labels : List ℕ
  -- the columns that the last fork, split or merge touched
  pub touched : List ℕ
