use Rattle.std.proofs.Common.{◌≡◌, ◌<◌, ℕ, true, slice_index}
use Rattle.std.specs.Prelude.{◌/◌}
use Rattle.cw_tree.specs.Walks.{has}
use Rattle.cw_trace.specs.Listing.{Grows}
use Rattle.cw_trace.proofs.touched.list_marks.Given as goal

abbrev pub invariant-loop-i : goal.invariant-loop-i
invariant-loop-i l = record {
  grows : Grows l.fn.touched l.touched;
  there : (k : ℕ) → k < l.i → slice_index l.marks (slice_index l.places k) / 2 < l.fn.touched.used → has l.touched.columns (slice_index l.marks (slice_index l.places k) / 2) ≡ true;
}
