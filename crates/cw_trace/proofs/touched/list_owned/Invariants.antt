use Rattle.std.proofs.Common.{◌≡◌, ◌<◌, ◌≤◌, ℕ, true, slice_index}
use Rattle.std.specs.Prelude.{◌⊎◌}
use Rattle.cw_tree.specs.Walks.{has}
use Rattle.cw_trace.specs.Listing.{Grows}
use Rattle.cw_trace.proofs.touched.list_owned.Given as goal

abbrev pub invariant-loop-i : goal.invariant-loop-i
invariant-loop-i l = record {
  grows : Grows l.fn.touched l.touched;
  there : (k : ℕ) → l.from ≤ k → k < l.i → (slice_index l.owners k ≡ l.a) ⊎ (slice_index l.owners k ≡ l.b) → has l.touched.columns k ≡ true;
}
