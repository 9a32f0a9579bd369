-- What a caller sees of a tier, and what its parts keep.
use Rattle.std.specs.Prelude.{◌≡◌, ℕ, ◌+◌, ◌*◌, ◌/◌, ◌%◌, ◌^◌, ◌<◌, ◌≤◌, true, List, length, filter, is_some, slice_index, vec_capacity, Option, Some}
use Rattle.cw_tree.specs.Walks.{has}
use Rattle.cw_trace.specs.declared.tier.Trace.{Trace}
use Rattle.cw_trace.specs.declared.tier.Tier.TheInside.{Inside}
use Rattle.cw_trace.specs.Columns.{ColumnTable, used, owner, is_trace, outer, opening_mark, closing_mark}
use Rattle.cw_trace.specs.Labels.{AreInOrder}
use Rattle.cw_trace.specs.Keeps.{Distinct}
use Rattle.cw_trace.specs.Traces.{Traces}

abbrev pub traces_of : Inside → Traces
traces_of a = record {
  columns = record {
    room = a.room;
    owners = a.owners.items;
    gaps = a.gaps.items;
    parents = a.parents.items;
    traces = a.traces.items;
    brackets = a.brackets.marks;
    outers = a.outers.items;
  };
  labels = a.brackets.labels;
  touched = a.touched.columns;
}

-- how many columns name a trace
abbrev pub trace_count : List (Option Trace) → ℕ
trace_count ts = length (filter is_some ts)

-- what every call keeps, whether or not the tier represents a tree
pub record AreSound (c : ColumnTable) : Type 0 where
  pub odd : used c % 2 ≡ 1
  pub rooted : (i : ℕ) → 0 < i → i < used c → slice_index c.parents i < i
  -- the owner of a column is not a greater column, and is a trace
  pub owner_low : (i : ℕ) → i < used c → owner c i ≤ i
  pub owned : (i : ℕ) → i < used c → is_trace c (owner c i) ≡ true
  pub pairs : (f : ℕ) → f % 2 ≡ 1 → f < used c → is_trace c (f + 1) ≡ is_trace c f
  pub outer_low : (i o : ℕ) → outer c i ≡ Some o → o < used c
  -- the brackets are exactly those of the traces, each once
  pub distinct : Distinct c.brackets
  pub count : length c.brackets ≡ 2 * trace_count c.traces
  pub there : (t : ℕ) → is_trace c t ≡ true → (has c.brackets (opening_mark t) ≡ true) × (has c.brackets (closing_mark t) ≡ true)
  pub only : (b : ℕ) → has c.brackets b ≡ true → is_trace c (b / 2) ≡ true

pub record IsTierInMemory (a : Inside) : Type 0 where
  pub few : a.room < 2 ^ 31
  pub fits : length a.owners.items ≤ a.room
  pub gaps : length a.gaps.items ≡ length a.owners.items
  pub parents : length a.parents.items ≡ length a.owners.items
  pub traces : length a.traces.items ≡ length a.owners.items
  pub outers : length a.outers.items ≡ length a.owners.items
  pub owners_room : a.room ≤ vec_capacity a.owners
  pub gaps_room : a.room ≤ vec_capacity a.gaps
  pub parents_room : a.room ≤ vec_capacity a.parents
  pub traces_room : a.room ≤ vec_capacity a.traces
  pub outers_room : a.room ≤ vec_capacity a.outers
  pub brackets_room : a.brackets.room ≡ 2 * a.room
  pub touched_used : a.touched.used ≡ length a.owners.items
  pub touched_room : a.touched.room ≡ a.room
  pub labelled : AreInOrder a.brackets.marks a.brackets.labels
  pub sound : AreSound (traces_of a).columns
