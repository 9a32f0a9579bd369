-- Which columns a call touched.
use Rattle.std.specs.Prelude.{ℕ, ◌≡◌, ◌<◌, ◌⊎◌, true}
use Rattle.cw_tree.specs.Walks.{has}
use Rattle.cw_trace.specs.Columns.{used}
use Rattle.cw_trace.specs.Labels.{full_row}
use Rattle.cw_trace.specs.Traces.{Traces}

-- each column in use that is not listed was in use before, and its row is the same
abbrev pub TouchedAreListed : Traces → Traces → Type 0
TouchedAreListed s u = (i : ℕ) → i < used u.columns → (has u.touched i ≡ true) ⊎ ((i < used s.columns) × (full_row u.columns u.labels i ≡ full_row s.columns s.labels i))
