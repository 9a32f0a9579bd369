-- What a closed table leaves: where each log begins in the tree, and what lay in the slots.
use Rattle.std.specs.Prelude.{◌≡◌, ℕ, ◌≤◌, List, ◌∷◌, ◌++◌, length, Some, None, slice_get}
use Rattle.std.specs.List.Sorted.{IsStrictlyIncreasing}
use Rattle.atomic_table.specs.Table.{Me}
use Rattle.cw_tree.specs.declared.access.Entry.{Entry}
use Rattle.cw_tree.specs.declared.node.BlockState.TheVariants.{Committed}
use Rattle.cw_tree.specs.declared.node.Node.{Node}
use Rattle.cw_tree.specs.AccessStacks.{stamps}
use Rattle.cw_stack.specs.Cells.{CellParts, AreSteps}
use Rattle.cw_log.specs.declared.log.Log.{Log}
use Rattle.cw_course.specs.Closings.{base_of, HasNone, AreApart}
use Rattle.cw_steps.specs.declared.closing.bases.Bases.{Bases}
use Rattle.cw_steps.specs.declared.draw.Aim.TheVariants.{Look}
use Rattle.cw_steps.specs.declared.track.Track.{Track}
use Rattle.cw_steps.specs.declared.view.Key.{Key}
use Rattle.cw_steps.specs.declared.view.WordNote.{WordNote}
use Rattle.cw_steps.specs.declared.view.Slot.{Slot}
use Rattle.cw_steps.specs.declared.view.Slot.TheVariants as slot
use Rattle.cw_steps.specs.declared.view.View.{View}
use Rattle.cw_steps.specs.Totals.{total}
use Rattle.cw_steps.specs.Tracks.{track_of}
use Rattle.cw_steps.specs.Views.{cells_of, TakesIt}

-- ## Logs

abbrev pub logs_of_track : Track → List Log
logs_of_track c = (track_of c).own ∷ (track_of c).joined

abbrev pub nodes_in : List Log → ℕ
nodes_in = total (λ (l : Log). length l.nodes)

-- For each column of these logs, the table tells where the log of that column begins, whatever logs follow behind them.
pub record HasBases (b : Bases) (ls : List Log) : Type 0 where
  pub found : (column base : ℕ) → slice_get b.table.items column ≡ Some (Some base) → (more : List Log) → base_of (ls ++ more) column ≡ base
  pub free : (column : ℕ) → slice_get b.table.items column ≡ Some None → HasNone column ls
  pub count : b.count ≡ nodes_in ls
  pub apart : AreApart ls

-- the node is committed and has no end
abbrev pub IsPlain : Node → Type 0
IsPlain x = (x.state ≡ Committed) × (x.end ≡ 0)

-- ## What lay in the slots

-- the seat took turns and gave them back, and did nothing else
pub record HasReturned (me me' : Me Slot View) : Type 0 where
  pub seen : ℕ
  pub notes : List WordNote
  pub later : me.0.seen ≤ seen
  pub after : me' ≡ (record me.0 { seen = seen; notes = notes }, me.1)

-- Some entries that may have lain in the cell of slot `n`: after some looks (turns taken and given back), the seat may have taken
-- the turn of slot `n` and found a cell with the entries `es`. Their stamps rise, and each entry has the value that those before it
-- left.
pub record IsFoundJournal (key : Key) (me : Me Slot View) (n : ℕ) (es : List Entry) : Type 0 where
  pub before : Me Slot View
  pub after : Me Slot View
  pub looked : HasReturned me before
  pub takes : TakesIt key Look n before after
  pub cell : CellParts
  pub lay : takes.lay ≡ slot.Cell cell
  pub entries : es ≡ cell.entries
  pub rising : IsStrictlyIncreasing (stamps es)
  pub steps : AreSteps cell.first es

-- one such journal for each cell
pub record AreFoundJournals (key : Key) (me : Me Slot View) (js : List (List Entry)) : Type 0 where
  pub many : length js ≡ cells_of key
  pub each : (n : ℕ) (es : List Entry) → slice_get js n ≡ Some es → IsFoundJournal key me n es
