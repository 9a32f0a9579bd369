-- What a token knows, and what each step makes of that.
use Rattle.std.specs.Prelude.{◌≡◌, ℕ, ℤ, zero, suc, ◌+◌, ◌-◌, ◌*◌, ◌^◌, ◌<◌, ◌≤◌, ◌==◌, ◌||◌, nat_lt, Bool, true, false, All, List, [], ◌∷◌, ◌++◌, length, map, max, drop, Option, Some, None, IfSome, IsSomeAnd, if◌then◌else◌}
use Rattle.std.specs.List.Sorted.{IsStrictlyIncreasing}
use Rattle.atomic_table.specs.Table.{Me, Step, rest}
use Rattle.cw_code.specs.declared.Back.{Back}
use Rattle.cw_tree.specs.declared.access.Entry.{Entry}
use Rattle.cw_tree.specs.declared.access.Mark.{Mark}
use Rattle.cw_tree.specs.declared.closed.Halt.{Halt}
use Rattle.cw_log.specs.declared.token.Phase.{Phase}
use Rattle.cw_log.specs.declared.token.Phase.TheVariants.{Going, Waiting, Over, Parted}
use Rattle.cw_stack.specs.Cells.{newest_entry, CellParts, entries_value}
use Rattle.cw_trace.specs.Traces.{Traces}
use Rattle.cw_trace.specs.Columns as columns
use Rattle.cw_trace.specs.Labels.{AreLabels}
use Rattle.cw_trace.specs.declared.tier.Row.{Row}
use Rattle.cw_steps.specs.declared.draw.Draw.{Draw}
use Rattle.cw_steps.specs.declared.draw.Draw.TheVariants as draw
use Rattle.cw_steps.specs.declared.draw.Aim.{Aim}
use Rattle.cw_steps.specs.declared.draw.Aim.TheVariants as aims
use Rattle.cw_steps.specs.declared.draw.Home.{Home}
use Rattle.cw_steps.specs.declared.draw.Home.TheVariants as home
use Rattle.cw_steps.specs.declared.places.Place.{Place}
use Rattle.cw_steps.specs.declared.view.Change.{Change}
use Rattle.cw_steps.specs.declared.view.Key.{Key}
use Rattle.cw_steps.specs.declared.view.Slot.{Slot}
use Rattle.cw_steps.specs.declared.view.Slot.TheVariants as slot
use Rattle.cw_steps.specs.declared.view.Coming.{Coming}
use Rattle.cw_steps.specs.declared.view.Whereabouts.{Whereabouts}
use Rattle.cw_steps.specs.declared.view.Turn.{Turn}
use Rattle.cw_steps.specs.declared.view.View.{View}
use Rattle.cw_steps.specs.Around.{caught_up, innermost, outwards}
use Rattle.cw_steps.specs.Passes.{IsAskedNow}
use Rattle.cw_steps.specs.Places.{places_of_column, turn_word, word_of_place}
use Rattle.cw_steps.specs.Words.{row_of, IsInRow, IsStored}
use Rattle.cw_steps.specs.declared.table.Shared.{Shared}
use Rattle.cw_steps.specs.declared.table.StrandToken.{StrandToken}

abbrev pub cells_of : Key → ℕ
cells_of key = length key.first

-- the numbers that belong to a column: a log has at most 2 ^ 32 nodes, and each takes at most two
abbrev pub share : ℕ
share = 2 ^ 33

-- the view of a strand that has done nothing
abbrev pub new_view : (column gap fork seen room owns : ℕ) → (around : List ℕ) → Phase → View
new_view column gap fork seen room owns around phase = record {
  here = true;
  column = column;
  gap = gap;
  word = 0;
  arounds = around ∷ [];
  outer = [];
  coming = None;
  fork = fork;
  split = false;
  phase = phase;
  drawn = 0;
  ends = false;
  undoing = false;
  seen = seen;
  turns = [];
  clear = false;
  found = None;
  halt = None;
  told = false;
  notes = [];
  room = room;
  owns = owns;
  logs = [];
  lent = [];
}

-- the root's view at the start
abbrev pub root_view : View
root_view = new_view 0 0 0 0 share 1 [] Going

-- after a word was read or written
abbrev pub noted_view : (word value : ℕ) → View → View
noted_view word value v = record v { notes = record { word = word; value = value } ∷ v.notes }

-- ## Turns

-- the number of turns of slot `n` in the list
abbrev pub turns_of : ℕ → List Turn → ℕ
turns_of n [] = 0
turns_of n (t ∷ ts) = (if t.slot == n then 1 else 0) + turns_of n ts

abbrev pub has_turn : ℕ → View → ℕ
has_turn n v = turns_of n v.turns

-- the slot of the newest turn
abbrev pub newest_slot : List Turn → Option ℕ
newest_slot [] = None
newest_slot (t ∷ ts) = Some t.slot

-- the number of columns with which the tier has to come home, if its turn is the newest
abbrev pub newest_used : List Turn → ℕ
newest_used [] = 0
newest_used (t ∷ ts) = t.used

-- the turns without the newest
abbrev pub older : List Turn → List Turn
older [] = []
older (t ∷ ts) = ts

-- the tier that lay in the slot of the newest turn, with the columns that were drawn since
abbrev pub newest_tier : List Turn → Option Traces
newest_tier [] = None
newest_tier (t ∷ ts) = t.tier

-- the change of the tier that is under way, or shown and not drawn yet
abbrev pub newest_change : List Turn → Option Change
newest_change [] = None
newest_change (t ∷ ts) = t.change

-- no change of the tier is under way
abbrev pub IsQuiet : View → Type 0
IsQuiet v = newest_change v.turns ≡ None

-- the aim for which the newest turn was taken; below, the cell that lay in its slot, with the access that was drawn since
abbrev pub newest_aim : List Turn → Aim
newest_aim [] = aims.Look
newest_aim (t ∷ ts) = t.aim

abbrev pub newest_cell : List Turn → Option CellParts
newest_cell [] = None
newest_cell (t ∷ ts) = t.cell

-- the cell with one more entry, of an access that left this value
abbrev pub cell_with : Mark → (wrote : Bool) → ℤ → Option CellParts → Option CellParts
cell_with m w x None = None
cell_with m w x (Some c) = Some (record c { entries = c.entries ++ record { mark = m; wrote = w; value = x; old = entries_value c } ∷ [] })

abbrev pub with_access : Mark → (wrote : Bool) → ℤ → List Turn → List Turn
with_access m w x [] = []
with_access m w x (t ∷ ts) = record t { cell = cell_with m w x t.cell } ∷ ts

-- the turn with the tier that a change brought, if there is one
abbrev pub with_come : Option Change → Turn → Turn
with_come None t = t
with_come (Some ch) t = record t { tier = Some ch.come; change = None }

-- `more` more columns are in use, by the tier that was shown
abbrev pub with_more : (more : ℕ) → List Turn → List Turn
with_more k [] = []
with_more k (t ∷ ts) = record (with_come t.change t) { used = t.used + k } ∷ ts

-- ## What lies in the slots

-- a cell with no stamp above `most`
abbrev pub IsLowCell : (most : ℕ) → Slot → Type 0
IsLowCell most (slot.Cell x) = All (λ (e : Entry). e.mark.stamp ≤ most) x.entries
IsLowCell most (slot.Tier x) = ⊥
IsLowCell most slot.Empty = ⊥

-- a tier with room for `limit` columns, `used` of them in use
abbrev pub IsTierOf : (limit used : ℕ) → Slot → Type 0
IsTierOf limit used (slot.Tier x) = (x.columns.room ≡ limit) × (columns.used x.columns ≡ used)
IsTierOf limit used (slot.Cell x) = ⊥
IsTierOf limit used slot.Empty = ⊥

-- what lies in slot `n`: a cell if `n` is below the number of cells, and the tier if it equals that number
pub record IsWhole (key : Key) (most used n : ℕ) (y : Slot) : Type 0 where
  pub cell : n < cells_of key → IsLowCell most y
  pub tier : n ≡ cells_of key → IsTierOf key.columns used y

-- ## Tokens

abbrev pub view_of : StrandToken → View
view_of t = t.seat.me.0

-- the slots that the token has taken out, each with what lies there, newest first
abbrev pub held_by : StrandToken → List (ℕ × Slot)
held_by t = t.seat.me.1

abbrev pub IsTokenOf : Shared → StrandToken → Type 0
IsTokenOf s t = t.seat.table_id ≡ s.table.shared.table_id

abbrev pub key_of : Shared → Key
key_of s = s.table.shared.key

-- the newest turn is that of slot `n`, in which `y` lies
pub record Holding (t : StrandToken) (n : ℕ) (y : Slot) : Type 0 where
  pub turn : newest_slot (view_of t).turns ≡ Some n
  pub slot : held_by t ≡ (n, y) ∷ rest (held_by t)

abbrev pub slot_with : Option CellParts → Slot
slot_with None = slot.Empty
slot_with (Some c) = slot.Cell c

abbrev pub cell_in : Slot → Option CellParts
cell_in (slot.Cell c) = Some c
cell_in (slot.Tier t) = None
cell_in slot.Empty = None

-- ## Draws

-- the number of columns that a fork takes: two, or none if both strands share one
abbrev pub columns_for : (left right : ℕ) → ℕ
columns_for left right = if left == right then 0 else 2

abbrev pub columns_more : Draw → ℕ
columns_more (draw.Fork left right gap) = columns_for left right
columns_more (draw.Access c wrote v) = 0
columns_more (draw.Out v) = 0
columns_more (draw.Cancel back) = 0
columns_more draw.Begin = 0
columns_more (draw.End aborted) = 0

abbrev pub column_after : Draw → ℕ → ℕ
column_after (draw.Fork left right gap) own = left
column_after (draw.Access c wrote v) own = own
column_after (draw.Out v) own = own
column_after (draw.Cancel back) own = own
column_after draw.Begin own = own
column_after (draw.End aborted) own = own

abbrev pub gap_after : Draw → ℕ → ℕ
gap_after (draw.Fork left right gap) own = gap
gap_after (draw.Access c wrote v) own = own
gap_after (draw.Out v) own = own
gap_after (draw.Cancel back) own = own
gap_after draw.Begin own = own
gap_after (draw.End aborted) own = own

abbrev pub word_after : Draw → ℕ → ℕ
word_after (draw.Fork left right gap) own = if left == right then own else 0
word_after (draw.Access c wrote v) own = own
word_after (draw.Out v) own = own
word_after (draw.Cancel back) own = own
word_after draw.Begin own = own
word_after (draw.End aborted) own = own

-- the right strand of a fork with two columns is to get a seat of its own
abbrev pub coming_for : (left right gap : ℕ) → Option Coming → Option Coming
coming_for left right gap old = if left == right then old else Some (record { fork = left; column = right; gap = gap })

abbrev pub coming_after : Draw → Option Coming → Option Coming
coming_after (draw.Fork left right gap) old = coming_for left right gap old
coming_after (draw.Access c wrote v) old = old
coming_after (draw.Out v) old = old
coming_after (draw.Cancel back) old = old
coming_after draw.Begin old = old
coming_after (draw.End aborted) old = old

abbrev pub turns_after : Draw → (number : ℕ) → View → List Turn
turns_after (draw.Fork left right gap) n v = with_more (columns_for left right) v.turns
turns_after (draw.Access c wrote x) n v = with_access (record { strand = v.column; stamp = n }) wrote x v.turns
turns_after (draw.Out x) n v = v.turns
turns_after (draw.Cancel back) n v = v.turns
turns_after draw.Begin n v = v.turns
turns_after (draw.End aborted) n v = v.turns

-- the strand that forks waits, if the fork has two columns
abbrev pub outer_for : (left right : ℕ) → View → List Whereabouts
outer_for left right v = if left == right then v.outer else record { column = v.column; gap = v.gap; word = v.word } ∷ v.outer

abbrev pub outer_after : Draw → View → List Whereabouts
outer_after (draw.Fork left right gap) v = outer_for left right v
outer_after (draw.Access c wrote x) v = v.outer
outer_after (draw.Out x) v = v.outer
outer_after (draw.Cancel back) v = v.outer
outer_after draw.Begin v = v.outer
outer_after (draw.End aborted) v = v.outer

-- A begin puts its stamp around what comes next, and an end removes the innermost. The blocks around a fork are around its strands
-- too.
abbrev pub arounds_after : Draw → (number : ℕ) → List (List ℕ) → List (List ℕ)
arounds_after (draw.Fork left right gap) n ws = innermost ws ∷ ws
arounds_after (draw.Access c wrote x) n ws = ws
arounds_after (draw.Out x) n ws = ws
arounds_after (draw.Cancel back) n ws = ws
arounds_after draw.Begin n ws = (n ∷ innermost ws) ∷ outwards ws
arounds_after (draw.End aborted) n ws = drop 1 (innermost ws) ∷ outwards ws

-- a fork with two columns owns one more, that of a log to come
abbrev pub owns_after : Draw → ℕ → ℕ
owns_after (draw.Fork left right gap) own = own + (if left == right then 0 else 1)
owns_after (draw.Access c wrote v) own = own
owns_after (draw.Out v) own = own
owns_after (draw.Cancel back) own = own
owns_after draw.Begin own = own
owns_after (draw.End aborted) own = own

-- After a draw: its number is the greatest seen. A fork takes its columns with their numbers, and the left strand goes on.
abbrev pub drew_view : Draw → (behind : ℕ) → (second : Bool) → (number : ℕ) → View → View
drew_view d behind second n v = record v {
  seen = n;
  room = v.room - 1 + share * columns_more d;
  owns = owns_after d v.owns;
  column = column_after d v.column;
  gap = gap_after d v.gap;
  word = word_after d v.word;
  arounds = arounds_after d n (caught_up behind second v.arounds);
  outer = outer_after d v;
  coming = coming_after d v.coming;
  turns = turns_after d n v;
}

-- the columns of a fork were shown, and the fork is not drawn yet
pub record IsShown (word column : ℕ) (ts : List Turn) : Type 0 where
  pub lay : Traces
  pub lies : newest_tier ts ≡ Some lay
  pub change : Change
  pub there : newest_change ts ≡ Some change
  pub even : change.even ≡ true
  pub forked : change.come.columns ≡ columns.forked word column lay.columns

-- A fork with two columns was shown before it is drawn, by the strand with this column, whose gap word is `word`. Before an inline
-- fork nothing was changed.
abbrev pub IsShownAhead : (more word column : ℕ) → List Turn → Type 0
IsShownAhead zero w c ts = newest_change ts ≡ None
IsShownAhead (suc k) w c ts = IsShown w c ts

-- The two columns of a fork are the next ones. Both strands use the gap of the strand that forks, or that of the left one if its
-- gap word shows a block. An inline fork, made if there is no room for two columns, keeps the strand's column and gap. The fork
-- needs the tier's turn, taken for a fork.
pub record CanFork (key : Key) (v : View) (left right gap : ℕ) : Type 0 where
  pub turn : newest_slot v.turns ≡ Some (cells_of key)
  pub aim : newest_aim v.turns ≡ aims.Fork
  pub one : left ≡ (if left == right then v.column else newest_used v.turns)
  pub other : right ≡ (if left == right then left else suc left)
  pub few : newest_used v.turns + columns_for left right ≤ key.columns
  pub within : gap < newest_used v.turns + columns_for left right
  pub full : left ≡ right → key.columns < newest_used v.turns + 2
  pub gap_used : gap ≡ (if left == right then v.gap else if v.word == 0 then v.gap else left)
  pub shown : IsShownAhead (columns_for left right) v.word v.column v.turns

-- if the cell has entries, the newest notes are a question about the newest entry, whose answer lets the next access through
abbrev pub HasAsked : Key → View → CellParts → Type 0
HasAsked key v y = IfSome (newest_entry y.entries) (λ (e : Entry). IsAskedNow (cells_of key) key.columns e.mark v.column v.notes)

-- An access needs the turn of its cell, taken for an access. If that cell has entries, a question about the newest one was asked
-- last, and let the access through. A take is noted too, so that question was not over before the take. A read needs the value that
-- the cell has.
pub record CanAccess (key : Key) (v : View) (c : ℕ) (wrote : Bool) (x : ℤ) : Type 0 where
  pub there : c < cells_of key
  pub turn : newest_slot v.turns ≡ Some c
  pub aim : newest_aim v.turns ≡ aims.Access
  pub asked : IsSomeAnd (newest_cell v.turns) (HasAsked key v)
  pub read : wrote ≡ false → IsSomeAnd (newest_cell v.turns) (λ y. x ≡ entries_value y)

-- A cancel lists cells of the board, by rising number.
pub record CanCancel (key : Key) (back : List Back) : Type 0 where
  pub there : All (λ (b : Back). b.cell < cells_of key) back
  pub rises : IsStrictlyIncreasing (map (λ (b : Back). b.cell) back)

abbrev pub CanDraw : Key → View → Draw → Type 0
CanDraw key v (draw.Fork left right gap) = CanFork key v left right gap
CanDraw key v (draw.Access c wrote x) = CanAccess key v c wrote x
CanDraw key v (draw.Out x) = Unit {0}
CanDraw key v (draw.Cancel back) = CanCancel key back
CanDraw key v draw.Begin = Unit {0}
CanDraw key v (draw.End aborted) = Unit {0}

-- ## Turns taken and given

abbrev pub tier_of : Slot → Option Traces
tier_of (slot.Tier x) = Some x
tier_of (slot.Cell x) = None
tier_of slot.Empty = None

abbrev pub turn_for : (n : ℕ) → Aim → Slot → (used : ℕ) → Turn
turn_for n aim y used = record { slot = n; aim = aim; cell = cell_in y; tier = tier_of y; used = used; change = None }

-- after a take, which is noted: the turn was found free, the clock showed `clock`, and `y` lay in the slot
abbrev pub took_view : (n : ℕ) → Aim → Slot → (used clock : ℕ) → View → View
took_view n aim y used clock v = noted_view (turn_word n) 0 (record v { seen = clock; turns = turn_for n aim y used ∷ v.turns })

-- a right strand whose fork was split uses the gap of its own column
abbrev pub gap_home : Home → (column gap : ℕ) → ℕ
gap_home (home.Split fork used) column gap = column
gap_home home.Plain column gap = gap
gap_home (home.Refused c) column gap = gap
gap_home (home.Merge fork used) column gap = gap
gap_home (home.Inline used) column gap = gap
gap_home (home.Early before used) column gap = gap

-- It is then split, and goes on. A strand goes on, too, once the traces of its fork were merged.
abbrev pub split_home : Home → Bool → Bool
split_home (home.Split fork used) b = true
split_home home.Plain b = b
split_home (home.Refused c) b = b
split_home (home.Merge fork used) b = b
split_home (home.Inline used) b = b
split_home (home.Early before used) b = b

abbrev pub phase_home : Home → Phase → Phase
phase_home (home.Split fork used) x = Going
phase_home home.Plain x = x
phase_home (home.Refused c) x = x
phase_home (home.Merge fork used) x = Going
phase_home (home.Inline used) x = x
phase_home (home.Early before used) x = x

abbrev pub gave_view : Home → View → View
gave_view h v = record v { gap = gap_home h v.column v.gap; split = split_home h v.split; phase = phase_home h v.phase; turns = older v.turns }

-- ## Changes of the tier
-- Whoever has the tier's turn makes the version odd, stores the words that a change touches, and makes it even.

abbrev pub with_change : Option Change → List Turn → List Turn
with_change o [] = []
with_change o (t ∷ ts) = record t { change = o } ∷ ts

-- a change to `come` may begin: no other is under way, and the labels of the tier that comes go in the order of its marks
pub record CanChange (key : Key) (v : View) (come : Traces) : Type 0 where
  pub turn : newest_slot v.turns ≡ Some (cells_of key)
  pub quiet : IsQuiet v
  pub few : columns.used come.columns ≤ key.columns
  pub labels : AreLabels come.columns come.labels

-- after the version was made odd for a change to `come`
abbrev pub odd_view : (come : Traces) → View → View
odd_view come v = record v { turns = with_change (Some (record { come = come; stored = []; even = false })) v.turns }

-- a change is under way, and the version is odd
pub record IsUnderWay (key : Key) (v : View) : Type 0 where
  pub turn : newest_slot v.turns ≡ Some (cells_of key)
  pub change : Change
  pub there : newest_change v.turns ≡ Some change
  pub odd : change.even ≡ false

-- the word belongs to a column in use of the tier that comes, and this tier has the value there
pub record CanStore (key : Key) (v : View) (at : Place) (value : ℕ) : Type 0 where
  pub under_way : IsUnderWay key v
  pub column : ℕ
  pub used : column < columns.used under_way.change.come.columns
  pub low : column < key.columns
  pub row : IsInRow column (row_of under_way.change.come column) at value

-- the row is that of a column in use of the tier that comes
pub record CanStoreRow (key : Key) (v : View) (column : ℕ) (row : Row) : Type 0 where
  pub under_way : IsUnderWay key v
  pub used : column < columns.used under_way.change.come.columns
  pub low : column < key.columns
  pub same : row ≡ row_of under_way.change.come column

abbrev pub stored_in : (word : ℕ) → Option Change → Option Change
stored_in w None = None
stored_in w (Some ch) = Some (record ch { stored = w ∷ ch.stored })

abbrev pub with_stored : (word : ℕ) → List Turn → List Turn
with_stored w [] = []
with_stored w (t ∷ ts) = record t { change = stored_in w t.change } ∷ ts

-- after one word was stored, and after some were
abbrev pub stored_view : (word : ℕ) → View → View
stored_view w v = record v { turns = with_stored w v.turns }

abbrev pub stored_all : (cells columns : ℕ) → List Place → View → View
stored_all cells columns [] v = v
stored_all cells columns (p ∷ ps) v = stored_all cells columns ps (stored_view (word_of_place cells columns p) v)

-- after the row of a column was stored
abbrev pub stored_row : Key → (column : ℕ) → View → View
stored_row key i v = stored_all (cells_of key) key.columns (places_of_column i) v

-- a change may end: each word that it changes was stored
pub record CanMakeEven (key : Key) (v : View) : Type 0 where
  pub under_way : IsUnderWay key v
  pub lay : Traces
  pub lies : newest_tier v.turns ≡ Some lay
  pub stored : IsStored (cells_of key) key.columns lay under_way.change

abbrev pub made_even : Option Change → Option Change
made_even None = None
made_even (Some ch) = Some (record ch { even = true })

abbrev pub with_even : List Turn → List Turn
with_even [] = []
with_even (t ∷ ts) = record t { change = made_even t.change } ∷ ts

-- after the version was made even
abbrev pub even_view : View → View
even_view v = record v { turns = with_even v.turns }

-- ## Gap words and halts

-- after the word of its own gap was written
abbrev pub marked_view : (word value : ℕ) → View → View
marked_view w x v = noted_view w x (record v { word = x })

-- after the stop flag was set
abbrev pub halted_view : (word : ℕ) → Halt → View → View
halted_view w h v = noted_view w 1 (record v { halt = Some h })

-- after the stop flag was read
abbrev pub told_view : (word value : ℕ) → View → View
told_view w n v = noted_view w n (record v { told = v.told || nat_lt 0 n })

-- ## Seats split off and joined

-- the right strand waits, with the numbers of its column
abbrev pub right_view : Option Coming → (around : List ℕ) → View → View
right_view None around v = new_view v.column v.gap 0 v.seen share 1 around Waiting
right_view (Some c) around v = new_view c.column c.gap c.fork v.seen share 1 around Waiting

-- the view of a note: it tells a right strand that its left one has ended, and does nothing else
abbrev pub note_view : View → View
note_view v = record (new_view v.column v.gap 0 0 0 0 [] Over) { here = false }

-- the left strand goes on; or, if its right one is taken back, it is over
abbrev pub parted_view : (take_back : Bool) → (behind : ℕ) → (second : Bool) → View → View
parted_view true behind second v = record v { phase = Over }
parted_view false behind second v = record v { coming = None; arounds = caught_up behind second v.arounds; room = v.room - share; owns = v.owns - 1 }

abbrev pub new_seat_view : (take_back : Bool) → (behind : ℕ) → (second : Bool) → View → View
new_seat_view true behind second v = note_view v
new_seat_view false behind second v = right_view v.coming (innermost (caught_up behind second v.arounds)) v

-- where the innermost waiting strand stands
abbrev pub stood_at : View → List Whereabouts → Whereabouts
stood_at v [] = record { column = v.column; gap = v.gap; word = v.word }
stood_at v (o ∷ os) = o

abbrev pub further_out : List Whereabouts → List Whereabouts
further_out [] = []
further_out (o ∷ os) = os

abbrev pub kept_halt : Option Halt → Option Halt → Option Halt
kept_halt None h = h
kept_halt (Some x) h = Some x

-- The left strand joined with the right one: the strand that forked. It owes a merge if that fork was split.
abbrev pub both_view : (behind : ℕ) → (second : Bool) → View → View → View
both_view behind second v w = record v {
  column = (stood_at v v.outer).column;
  gap = (stood_at v v.outer).gap;
  word = (stood_at v v.outer).word;
  outer = further_out v.outer;
  arounds = outwards (caught_up behind second v.arounds);
  phase = (if w.split then Parted w.fork else Going);
  seen = max v.seen w.seen;
  halt = kept_halt v.halt w.halt;
  told = v.told || w.told;
  room = v.room + w.room;
  owns = v.owns + w.owns;
}

-- A seat joined with another. If the other is not here, it is only a note, by which a right strand goes on.
abbrev pub joined_view : (behind : ℕ) → (second : Bool) → View → View → View
joined_view behind second v w = if w.here then both_view behind second v w else record v { phase = Going }

-- a seat that was joined away
abbrev pub spent_view : View
spent_view = record (new_view 0 0 0 0 0 0 [] Over) { here = false }

-- ## At the start

-- a cell that nobody has accessed
abbrev pub fresh_slot : ℤ → Slot
fresh_slot v = slot.Cell (record { first = v; entries = []; cleaned = 0; room = 0 })

-- ## What steps tell

abbrev pub drew : Draw → (behind : ℕ) → (second : Bool) → Step Slot → Me Slot View → ℕ → Me Slot View → Type 0
drew d behind second st me n me' = (n + 1 < 2 ^ 64) × (me.0.seen ≤ n) × (me' ≡ (drew_view d behind second (n + 1) me.0, me.1))

-- The slot was at home, since its turn was free. The seat's column and gap are among those in use.
pub record TakesIt (key : Key) (aim : Aim) (n : ℕ) (me me' : Me Slot View) : Type 0 where
  pub lay : Slot
  pub used : ℕ
  pub clock : ℕ
  pub later : me.0.seen ≤ clock
  pub few : used ≤ key.columns
  pub column : me.0.column < used
  pub gap : me.0.gap < used
  pub after : me' ≡ (took_view n aim lay used clock me.0, (n, lay) ∷ me.1)
  pub whole : IsWhole key clock used n lay

-- the word was found taken
abbrev pub LeavesIt : (word : ℕ) → (me me' : Me Slot View) → Type 0
LeavesIt word me me' = (value : ℕ) × (0 < value) × (me' ≡ (noted_view word value me.0, me.1))

-- the number found in the word of a turn is 0 if the turn was free
abbrev pub took : Key → Aim → (n : ℕ) → Step Slot → Me Slot View → ℕ → Me Slot View → Type 0
took key aim n st me zero me' = TakesIt key aim n me me'
took key aim n st me (suc k) me' = LeavesIt st.word me me'

abbrev pub gave : Home → Step Slot → Me Slot View → ℕ → Me Slot View → Type 0
gave h st me n me' = me' ≡ (gave_view h me.0, rest me.1)

abbrev pub marked : Step Slot → Me Slot View → ℕ → Me Slot View → Type 0
marked st me n me' = me' ≡ (marked_view st.word n me.0, me.1)

-- the stop flag is set to 1
abbrev pub set_stop : Halt → Step Slot → Me Slot View → ℕ → Me Slot View → Type 0
set_stop h st me n me' = (n ≡ 1) × (me' ≡ (halted_view st.word h me.0, me.1))

abbrev pub told : Step Slot → Me Slot View → ℕ → Me Slot View → Type 0
told st me n me' = me' ≡ (told_view st.word n me.0, me.1)

-- the rule says nothing yet of what a gap word or a word of a column means
abbrev pub found : Step Slot → Me Slot View → ℕ → Me Slot View → Type 0
found st me n me' = me' ≡ (noted_view st.word n me.0, me.1)

-- the operand is 1, and the word that of the version
abbrev pub made_odd : (word : ℕ) → (come : Traces) → Step Slot → Me Slot View → ℕ → Me Slot View → Type 0
made_odd word come st me n me' = (st.word ≡ word) × (st.first ≡ 1) × (me' ≡ (odd_view come me.0, me.1))

-- The value is stored at the word. Only a plain store knows its number ahead.
abbrev pub stored : (word value : ℕ) → Step Slot → Me Slot View → ℕ → Me Slot View → Type 0
stored word value st me n me' = (st.word ≡ word) × (st.first ≡ value) × (n ≡ value) × (me' ≡ (stored_view word me.0, me.1))

-- the operand is 1 here, too
abbrev pub evened : (word : ℕ) → Step Slot → Me Slot View → ℕ → Me Slot View → Type 0
evened word st me n me' = (st.word ≡ word) × (st.first ≡ 1) × (me' ≡ (even_view me.0, me.1))

-- The clock was looked at. The seat owns fewer than 2 ^ 31 columns.
abbrev pub weighed : Step Slot → Me Slot View → ℕ → Me Slot View → Type 0
weighed st me n me' = (st.word ≡ 0) × (me.0.owns < 2 ^ 31) × (me' ≡ me)
