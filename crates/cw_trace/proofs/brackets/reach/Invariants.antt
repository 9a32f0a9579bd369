use Rattle.std.proofs.Common.{◌≡◌, ◌≤◌, ◌+◌, ◌-◌, ℕ, slice_index, vec_len}
use Rattle.std.specs.Prelude.{◌⊎◌}
use Rattle.std.specs.Vec.{vec_capacity}
use Rattle.cw_trace.proofs.brackets.reach.Given as goal

abbrev pub invariant-loop-list : goal.invariant-loop-list
invariant-loop-list l = record {
  same : (k : ℕ) → slice_index l.list.items k ≡ slice_index l.fn.list.items k;
  longer : vec_len l.fn.list ≤ vec_len l.list;
  few : (vec_len l.list ≡ vec_len l.fn.list) ⊎ (vec_len l.list ≤ l.place + 1);
  capacity : vec_capacity l.fn.list ≤ vec_capacity l.list;
}

abbrev pub decreases-loop-list : goal.decreases-loop-list
decreases-loop-list l = l.place + 1 - vec_len l.list
