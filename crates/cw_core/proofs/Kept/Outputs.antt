-- The parts of a core after an output, and after a cancel.
use Rattle.std.proofs.Common.{◌≡◌, ℕ, ◌+◌, ◌<◌, ◌^◌, List, [], ◌∷◌, ◌++◌, length, refl, true, Option, Some}
use Rattle.std.specs.Prelude.{◌&&◌, ◌||◌, not, ℤ, slice_get, is_none}
use Rattle.std.proofs.lemmas.Bool.{and_parts}
use Rattle.cw_tree.specs.declared.node.Kind.TheVariants.{Out, Cancel}
use Rattle.cw_tree.specs.Series.{place}
use Rattle.cw_stack.specs.Cells.{CellParts}
use Rattle.cw_open.specs.Machine.{in_block, is_free}
use Rattle.cw_open.specs.Steps.{puts_back}
use Rattle.cw_open.proofs.Open.TreeSteps.{free_runs}
use Rattle.cw_core.specs.declared.event.Event.{Event}
use Rattle.cw_core.specs.declared.event.Event.TheVariants as event
use Rattle.cw_core.specs.declared.row.Row.{Row}
use Rattle.cw_core.specs.State.{CoreState, waits_for_left, spent}
use Rattle.cw_core.specs.Events.{fits, fits_now, is_stop, after_event}
use Rattle.cw_core.specs.Kept.{AreParts, with_row_changed, with_tail, with_place, plain_tail, leaf_row}
use Rattle.cw_core.proofs.Events.Kept.{events, free_ready}
use Rattle.cw_core.proofs.Kept.Leaves.{leaf_parts}
use Rattle.cw_core.proofs.Kept.PartsGrow.{unspent}

module _ (k : CoreState) (rows : List Row) (forks : List ℕ) (cells : List CellParts) (last : Option ℕ) (w : AreParts k rows forks cells last) (s : ℕ) where
  fits_here : (e : Event) → fits k e ≡ true → fits_now k e ≡ true
  fits_here e fit = (and_parts (is_none k.halt && (is_none (spent k) || is_stop e)) (fits_now k e) fit).1

  -- the rows with that of the leaf
  abbrev with_row : List Row
  with_row = with_row_changed (with_place (place k.machine.tree s)) s (with_row_changed (with_tail plain_tail) (place k.machine.tree s) rows ++ leaf_row s 0 ∷ [])

  pub out_parts : (v : ℤ) → fits k (event.Out s v) ≡ true → (r : Row) → slice_get rows (place k.machine.tree s) ≡ Some r
      → length k.machine.tree + 1 < 2 ^ 32 → AreParts (after_event k (event.Out s v)) with_row forks cells last
  out_parts v fit =
      let now = free_ready k.machine.first k w.core s (fits_here (event.Out s v) fit) in
      leaf_parts k rows forks cells last w s (free_runs k.machine s now.0) now.1 (Out v)
      (record { strand = refl; fork = refl; block = refl; tried = refl }) (events k.machine.first k (event.Out s v) w.core fit).1
      (unspent k (event.Out s v) refl fit)

  pub cancel_parts : fits k (event.Cancel s) ≡ true → (r : Row) → slice_get rows (place k.machine.tree s) ≡ Some r
      → length k.machine.tree + 1 < 2 ^ 32 → AreParts (after_event k (event.Cancel s)) with_row forks cells last
  cancel_parts fit =
      let free = (and_parts (is_free k.machine s && not (waits_for_left k s)) (in_block k.machine s) (fits_here (event.Cancel s) fit)).0 in
      let now = free_ready k.machine.first k w.core s free in
      leaf_parts k rows forks cells last w s (free_runs k.machine s now.0) now.1 (Cancel (puts_back k.machine s (k.machine.clock + 1)))
      (record { strand = refl; fork = refl; block = refl; tried = refl }) (events k.machine.first k (event.Cancel s) w.core fit).1
      (unspent k (event.Cancel s) refl fit)
