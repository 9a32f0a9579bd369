-- The labels of marks, and the row of a column.
use Rattle.std.specs.Prelude.{ℕ, ◌<◌, ◌≡◌, true, nat_lt, List, slice_index, if◌then◌else◌}
use Rattle.cw_tree.specs.Walks.{has}
use Rattle.cw_trace.specs.declared.tier.Row.{Row}
use Rattle.cw_trace.specs.Columns.{ColumnTable, owner, gap, head, lead, up, is_trace, opening_mark, closing_mark, stands_before}

-- labels go in the order of these marks, and none is 0
pub record AreInOrder (marks labels : List ℕ) : Type 0 where
  pub low : (a : ℕ) → has marks a ≡ true → 0 < slice_index labels a
  pub order : (a b : ℕ) → has marks a ≡ true → has marks b ≡ true → nat_lt (slice_index labels a) (slice_index labels b) ≡ stands_before marks a b

abbrev pub AreLabels : ColumnTable → List ℕ → Type 0
AreLabels c labels = AreInOrder c.brackets labels

-- the label of a mark of trace t, and 0 where column t names none
abbrev pub bracket_label : ColumnTable → (labels : List ℕ) → (t mark : ℕ) → ℕ
bracket_label c labels t m = if is_trace c t then slice_index labels m else 0

abbrev pub full_row : ColumnTable → (labels : List ℕ) → ℕ → Row
full_row c labels i = record {
  owner = owner c i;
  gap = gap c i;
  head = head c i;
  lead = lead c i;
  up = up c i;
  opening = bracket_label c labels i (opening_mark i);
  closing = bracket_label c labels i (closing_mark i);
}
