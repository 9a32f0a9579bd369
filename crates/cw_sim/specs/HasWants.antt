-- A strand that may go on may do what it wants.
use Rattle.std.specs.Prelude.{◌≡◌, ◌≤◌, ℕ, true, false}
use Rattle.cw_strand.specs.declared.want.Want.TheVariants.{End, Cancel}
use Rattle.cw_strand.specs.Strands.{Strands, is_over}
use Rattle.cw_open.specs.Machine.{in_block, is_free}
use Rattle.cw_sim.specs.Workers.{Simulation}
use Rattle.cw_sim.specs.Laws.{NamesCell}

-- A strand that may go on ends or gives up a block only if one of its own is pending, finishes only if none is, and names only
-- cells that are there. Each cell is an element of the strands, so that a strand may be told to put it back.
pub record HasWants {A : Type 0} (s : Strands A) (cells : ℕ) (m : Simulation A) : Type 0 where
  pub there : cells ≤ s.elements
  pub ends : (x : ℕ) → is_free m.core.machine x ≡ true → s.want (m.at x) ≡ End → in_block m.core.machine x ≡ true
  pub cancels : (x : ℕ) → is_free m.core.machine x ≡ true → s.want (m.at x) ≡ Cancel → in_block m.core.machine x ≡ true
  pub over : (x : ℕ) → is_free m.core.machine x ≡ true → is_over (s.want (m.at x)) ≡ true → in_block m.core.machine x ≡ false
  pub named : (x : ℕ) → is_free m.core.machine x ≡ true → NamesCell cells (s.want (m.at x))
