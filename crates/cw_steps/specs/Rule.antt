-- The rule of the table: what is true between any two steps. It says nothing yet of what the numbers mean in a tree.
use Rattle.std.specs.Prelude.{◌≡◌, ℕ, suc, ◌+◌, ◌*◌, ◌^◌, ◌<◌, ◌≤◌, true, IsTrue, All, List, length, slice_index, Option, Some, None, is_some}
use mathlib.Core.Option.{some}
use mathlib.Core.Option as maybe
use lib.ListN.{get_elem?}
use Rattle.atomic_table.specs.Table.{State}
use Rattle.cw_steps.specs.declared.view.Key.{Key}
use Rattle.cw_steps.specs.declared.view.Slot.{Slot}
use Rattle.cw_steps.specs.declared.view.Coming.{Coming}
use Rattle.cw_steps.specs.declared.view.Turn.{Turn}
use Rattle.cw_steps.specs.declared.view.Whereabouts.{Whereabouts}
use Rattle.cw_steps.specs.declared.view.View.{View}
use Rattle.cw_steps.specs.Places.{turn_word, stop_word, all_words}
use Rattle.cw_steps.specs.Totals.{total}
use Rattle.cw_steps.specs.Views.{cells_of, share, has_turn, IsLowCell, IsTierOf}

-- Word 0 is the clock. It has room for all numbers that may still be drawn, including the share of each column that is not in use.
-- No seat has seen a greater number. No column in use is owned twice.
pub record Clock (limit used : ℕ) (words : List ℕ) (views : List View) : Type 0 where
  pub room : slice_index words 0 + total (λ v. v.room) views + share * limit < 2 ^ 64 + share * used
  pub seen : (k : ℕ) (v : View) → get_elem? views k ≡ some v → v.seen ≤ slice_index words 0
  pub owned : total (λ v. v.owns) views ≤ used

-- a turn is free, or exactly one seat has it
pub record Turns (cells : ℕ) (words : List ℕ) (views : List View) : Type 0 where
  pub bits : (n : ℕ) → n ≤ cells → slice_index words (turn_word n) ≤ 1
  pub one : (n : ℕ) → n ≤ cells → total (has_turn n) views ≡ slice_index words (turn_word n)

-- a cell is at home in slot `n`, with no stamp above the clock
abbrev pub IsCellHome : (clock : ℕ) → List (maybe.Option Slot) → ℕ → Type 0
IsCellHome clock homes n = (y : Slot) × (get_elem? homes n ≡ some (some y)) × IsLowCell clock y

-- a cell whose turn is free is at home
pub record Cells (cells : ℕ) (words : List ℕ) (homes : List (maybe.Option Slot)) : Type 0 where
  pub home : (n : ℕ) → n < cells → slice_index words (turn_word n) ≡ 0 → IsCellHome (slice_index words 0) homes n

-- the tier is at home in slot `n`
abbrev pub IsTierHome : (limit used : ℕ) → List (maybe.Option Slot) → ℕ → Type 0
IsTierHome limit used homes n = (y : Slot) × (get_elem? homes n ≡ some (some y)) × IsTierOf limit used y

abbrev pub ComesIn : (used : ℕ) → Option Coming → Type 0
ComesIn used None = Unit {0}
ComesIn used (Some c) = (c.column < used) × (c.gap < used)

abbrev pub WaitsIn : (used : ℕ) → Whereabouts → Type 0
WaitsIn used o = (o.column < used) × (o.gap < used)

-- The seat's column and gap column are in use. So are those of a right strand whose seat is yet to come, and of the strands that
-- wait.
pub record StandsIn (used : ℕ) (v : View) : Type 0 where
  pub column : v.column < used
  pub gap : v.gap < used
  pub coming : ComesIn used v.coming
  pub outer : All (WaitsIn used) v.outer

-- a seat that has the tier's turn has to bring it home with `used` columns
abbrev pub BringsHome : (cells used : ℕ) → View → Type 0
BringsHome cells used v = All (λ (t : Turn). t.slot ≡ cells → t.used ≡ used) v.turns

-- `used` columns are in use. The tier is at home if its turn is free. Each seat stands in columns that are in use.
pub record Tiers (cells limit used : ℕ) (words : List ℕ) (homes : List (maybe.Option Slot)) (views : List View) : Type 0 where
  pub few : used ≤ limit
  pub home : slice_index words (turn_word cells) ≡ 0 → IsTierHome limit used homes cells
  pub held : (k : ℕ) (v : View) → get_elem? views k ≡ some v → BringsHome cells used v
  pub stands : (k : ℕ) (v : View) → get_elem? views k ≡ some v → StandsIn used v

-- some seat has halted
pub record HasHalted (views : List View) : Type 0 where
  pub seat : ℕ
  pub knows : View
  pub there : get_elem? views seat ≡ some knows
  pub halted : IsTrue (is_some knows.halt)

-- The stop flag is set only if a seat has halted. A seat learns of a halt only then, too.
pub record StopWord (cells : ℕ) (words : List ℕ) (views : List View) : Type 0 where
  pub word : 0 < slice_index words (stop_word cells) → HasHalted views
  pub told : (k : ℕ) (v : View) → get_elem? views k ≡ some v → v.told ≡ true → HasHalted views

pub record Holds (key : Key) (s : State Slot View) : Type 0 where
  pub long : length s.words ≡ all_words (cells_of key) key.columns
  pub deep : length s.homes ≡ suc (cells_of key)
  pub small : key.columns < 2 ^ 31
  pub used : ℕ
  pub clock : Clock key.columns used s.words s.views
  pub turns : Turns (cells_of key) s.words s.views
  pub cells : Cells (cells_of key) s.words s.homes
  pub tiers : Tiers (cells_of key) key.columns used s.words s.homes s.views
  pub stops : StopWord (cells_of key) s.words s.views
