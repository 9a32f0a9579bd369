-- What the parts of a core keep.
use Rattle.std.specs.Prelude.{◌≡◌, ℕ, ℤ, min, ◌+◌, ◌-◌, ◌*◌, ◌^◌, ◌<◌, ◌≤◌, ◌==◌, Bool, true, false, not, nat_lt, List, [], ◌∷◌, ◌++◌, length, map, filter, slice_get, slice_set, Option, Some, None, if◌then◌else◌}
use Rattle.std.specs.List.{suffix_len}
use Rattle.cw_tree.specs.declared.node.Node.{Node}
use Rattle.cw_tree.specs.declared.conflict.Conflict.{Conflict}
use Rattle.cw_tree.specs.declared.closed.Halt.{Halt}
use Rattle.cw_tree.specs.declared.closed.Halt.TheVariants as halt
use Rattle.cw_tree.specs.declared.access.Entry.{Entry}
use Rattle.cw_tree.specs.declared.access.Mark.{Mark}
use Rattle.cw_tree.specs.Nodes.{parent_of, stamp_of, touches, is_strand, is_fork, is_tried, is_pending, is_aborted, all_nodes}
use Rattle.cw_tree.specs.Walks.{has, is_above}
use Rattle.cw_tree.specs.Series.{children, strand_of, place}
use Rattle.cw_tree.specs.Shape.{is_closed}
use Rattle.cw_tree.specs.Attempts.{block_attempt, tried_cell, same_cell}
use Rattle.cw_tree.specs.Accesses.{written}
use Rattle.cw_tree.specs.AccessStacks.{access_at, written_by, stamps}
use Rattle.cw_stack.specs.Cells.{CellParts, entries_value, entry_of}
use Rattle.cw_trace.specs.Columns.{used}
use Rattle.cw_trace.specs.Stands.{fork_column}
use Rattle.cw_trace.specs.Verdicts.{mark_of}
use Rattle.cw_open.specs.Machine.{OpenMachine, has_finished, finished_dead, waits, is_running, falls}
use Rattle.cw_core.specs.declared.row.Made.{Made}
use Rattle.cw_core.specs.declared.row.Tail.{Tail}
use Rattle.cw_core.specs.declared.row.Now.{Now}
use Rattle.cw_core.specs.declared.row.Row.{Row}
use Rattle.cw_core.specs.declared.held.Barrier.{Barrier}
use Rattle.cw_core.specs.declared.held.Refused.{Refused}
use Rattle.cw_core.specs.State.{CoreState, column_of, has_columns, is_split, spent}
use Rattle.cw_core.specs.Events.{is_met, met_by}
use Rattle.cw_core.specs.Laws.{IsCore}

-- ## Rows

abbrev pub elder_list : Option ℕ → List ℕ
elder_list None = []
elder_list (Some l) = l ∷ []

-- the row says of node n what was fixed when it was made
pub record IsMade (k : CoreState) (n : ℕ) (r : Made) : Type 0 where
  pub strand : strand_of k.machine.tree n ≡ r.strand
  pub column : is_strand k.machine.tree n ≡ true → column_of k n ≡ r.column
  pub elder : is_strand k.machine.tree n ≡ true → filter (λ l. nat_lt l n) (children k.machine.tree (parent_of k.machine.tree n)) ≡ elder_list r.elder
  pub halves : is_fork k.machine.tree n ≡ true → children k.machine.tree n ≡ r.left ∷ r.right ∷ []
  pub columns : is_fork k.machine.tree n ≡ true → has_columns k n ≡ r.has_columns
  pub forked : is_fork k.machine.tree n ≡ true → r.has_columns ≡ true → fork_column k.machine.tree n ≡ r.column
  pub attempt : is_pending k.machine.tree n ≡ true → block_attempt k.machine.tree n ≡ r.attempt

-- the row says how the children of node n end
pub record IsTail (t : List Node) (n : ℕ) (r : Tail) : Type 0 where
  pub started : (length (children t n) == 0) ≡ not r.started
  pub aborted : suffix_len (is_aborted t) (children t n) ≡ r.aborted
  pub tried : (c : ℕ) → suffix_len (λ m. same_cell (tried_cell t m) (Some c)) (children t n) ≡ (if r.cell == c then r.tried else 0)

-- block v is pending, and has to be rolled back for access c; c was refused beneath strand s, but not beneath a fork that s made
-- and has not joined
pub record IsAtStake (m : OpenMachine) (s : ℕ) (c : Conflict) (v : ℕ) : Type 0 where
  pub over : is_above m.tree s c.asker ≡ true
  pub falls : falls m c v ≡ true
  pub beside : (f : ℕ) → is_fork m.tree f ≡ true → strand_of m.tree f ≡ s → has m.joined f ≡ false → is_above m.tree f c.asker ≡ false

-- strand s runs, or has finished and waits for the join of its fork
abbrev pub is_counted : OpenMachine → ℕ → Bool
is_counted m s = if has_finished m s then not (has m.joined (parent_of m.tree s)) else is_running m s

-- the outermost block that has to be rolled back for an access refused beneath strand s
abbrev pub IsVictim : OpenMachine → ℕ → Option ℕ → Type 0
IsVictim m s None = (i v : ℕ) (c : Conflict) → slice_get m.conflicts i ≡ Some c → IsAtStake m s c v → v < 0
IsVictim m s (Some w) =
    ((i v : ℕ) (c : Conflict) → slice_get m.conflicts i ≡ Some c → IsAtStake m s c v → w ≤ v)
    × (is_counted m s ≡ true → (i : ℕ) × (c : Conflict) × (slice_get m.conflicts i ≡ Some c) × (is_above m.tree s c.asker ≡ true) × (falls m c w ≡ true))

-- the row says what has become of node n
pub record IsNow (k : CoreState) (n : ℕ) (r : Now) : Type 0 where
  pub place : is_strand k.machine.tree n ≡ true → place k.machine.tree n ≡ r.place
  pub waits : is_strand k.machine.tree n ≡ true → waits k.machine n ≡ r.waits
  pub finished : has_finished k.machine n ≡ r.finished
  pub dead : finished_dead k.machine n ≡ r.dead
  pub victim : is_strand k.machine.tree n ≡ true → IsVictim k.machine n r.victim
  -- nothing is at stake for a strand that waits
  pub quiet : is_strand k.machine.tree n ≡ true → r.waits ≡ true → r.victim ≡ None
  pub split : is_fork k.machine.tree n ≡ true → is_split k n ≡ r.split
  pub joined : has k.machine.joined n ≡ r.joined

pub record IsRow (k : CoreState) (n : ℕ) (r : Row) : Type 0 where
  pub made : IsMade k n r.made
  pub tail : IsTail k.machine.tree n r.tail
  pub now : IsNow k n r.now

-- there is a row for each node
pub record AreRows (k : CoreState) (rows : List Row) : Type 0 where
  pub len : length rows ≡ length k.machine.tree
  pub each : (n : ℕ) (r : Row) → slice_get rows n ≡ Some r → IsRow k n r

-- the forks with columns, in the order of their left columns
pub record AreForks (k : CoreState) (forks : List ℕ) : Type 0 where
  pub count : used k.tier ≡ 2 * length forks + 1
  pub each : (i f : ℕ) → slice_get forks i ≡ Some f → (is_fork k.machine.tree f ≡ true) × (fork_column k.machine.tree f ≡ 2 * i + 1)

-- ## Cells

-- the entry is that of an access of cell c
pub record IsEntryOf (k : CoreState) (c : ℕ) (e : Entry) : Type 0 where
  pub node : ℕ
  pub touches : touches k.machine.tree c node ≡ true
  pub stamp : stamp_of k.machine.tree node ≡ e.mark.stamp
  pub wrote : written k.machine.tree node ≡ written_by e
  pub strand : column_of k node ≡ e.mark.strand

-- the entries of cell c are those of accesses, and none was cleaned
pub record IsHeld (k : CoreState) (c : ℕ) (cell : CellParts) : Type 0 where
  pub whole : cell.cleaned ≡ 0
  pub entries : (i : ℕ) (e : Entry) → slice_get cell.entries i ≡ Some e → IsEntryOf k c e

-- ## The whole

-- the strand in which the core stopped, if it stopped in one
abbrev pub stopped_by : Option Halt → List ℕ
stopped_by None = []
stopped_by (Some (halt.Fault s kind)) = s ∷ []
stopped_by (Some (halt.Budget s)) = s ∷ []
stopped_by (Some halt.Memory) = []

-- what is true of the parts of every core: its state, and beside it the rows, forks, cells and the spent strand
pub record AreParts (k : CoreState) (rows : List Row) (forks : List ℕ) (cells : List CellParts) (last : Option ℕ) : Type 0 where
  pub core : IsCore k.machine.first k
  pub few : length k.machine.tree < 2 ^ 32
  -- each node drew at most one stamp, and each closed block another one
  pub drawn : k.machine.clock ≤ length k.machine.tree + length (filter (is_closed k.machine.tree) (all_nodes k.machine.tree))
  pub rowed : AreRows k rows
  -- each conflict is that of a refused access
  pub askers : (i : ℕ) (c : Conflict) → slice_get k.machine.conflicts i ≡ Some c → is_tried k.machine.tree c.asker ≡ true
  pub forked : AreForks k forks
  pub held : (c : ℕ) (cell : CellParts) → slice_get cells c ≡ Some cell → IsHeld k c cell
  pub firsts : map (λ c. c.first) cells ≡ k.machine.first
  pub lists : map (λ c. stamps c.entries) cells ≡ k.machine.lists
  pub told : spent k ≡ last

-- the mark is that of an access
pub record IsMarked (k : CoreState) (x : Mark) : Type 0 where
  pub cell : ℕ
  pub touched : touches k.machine.tree cell (access_at k.machine.tree x.stamp) ≡ true
  pub marks : x ≡ mark_of k.tier k.machine.tree (access_at k.machine.tree x.stamp)

-- an access by strand s conflicts with the newest access of cell c; the barrier has that access, and the block that the columns
-- name
pub record IsBarrier (k : CoreState) (s c : ℕ) (b : Barrier) : Type 0 where
  pub met : is_met k s c ≡ true
  pub last : b.last.stamp ≡ (met_by k s c).last
  pub block : b.block ≡ (met_by k s c).block
  pub marked : IsMarked k b.last

-- ## New rows

-- the rows after row n was changed by f
abbrev pub with_row_changed : (Row → Row) → ℕ → List Row → List Row
with_row_changed f n rows =
    with_row (slice_get rows n) where
      with_row : Option Row → List Row
      with_row None = rows
      with_row (Some r) = slice_set rows n (f r)

-- the row after a child came last, so that the children end with this tail
abbrev pub with_tail : Tail → Row → Row
with_tail tail r = record r { tail = tail }

abbrev pub with_place : ℕ → Row → Row
with_place p r = record r { now = record r.now { place = p } }

abbrev pub no_tail : Tail
no_tail = record { started = false; aborted = 0; tried = 0; cell = 0 }

-- the children end with a node that is neither rolled back nor refused
abbrev pub plain_tail : Tail
plain_tail = record { started = true; aborted = 0; tried = 0; cell = 0 }

abbrev pub first_now : Now
first_now = record { place = 0; waits = false; finished = false; dead = false; victim = None; split = false; joined = false }

-- the row of a new node of strand s that is neither a strand nor a fork; for a block, with the number of its attempt
abbrev pub leaf_row : (s attempt : ℕ) → Row
leaf_row s attempt = record {
  made = record { strand = s; column = 0; elder = None; left = 0; right = 0; has_columns = false; attempt = attempt };
  tail = no_tail;
  now = first_now;
}

abbrev pub with_finished : Bool → Row → Row
with_finished dead r = record r { now = record r.now { finished = true; dead = dead } }

abbrev pub with_split : Row → Row
with_split r = record r { now = record r.now { split = true } }

abbrev pub with_joined : Row → Row
with_joined r = record r { now = record r.now { joined = true } }

-- the row of a strand that goes on after a join
abbrev pub with_back : Option ℕ → Row → Row
with_back victim r = record r { now = record r.now { waits = false; victim = victim } }

-- the smaller of two numbers, or the only one
abbrev pub least : Option ℕ → Option ℕ → Option ℕ
least None o = o
least (Some a) None = Some a
least (Some a) (Some b) = Some (min a b)

-- a cell with no accesses
abbrev pub fresh_cell : ℤ → CellParts
fresh_cell v = record { first = v; entries = []; cleaned = 0; room = 0 }

-- the cell with its room left out
abbrev pub without_room : CellParts → CellParts
without_room c = record c { room = 0 }

-- the cells after cell n was changed by f
abbrev pub cell_changed : (CellParts → CellParts) → ℕ → List CellParts → List CellParts
cell_changed f n cells =
    with_cell (slice_get cells n) where
      with_cell : Option CellParts → List CellParts
      with_cell None = cells
      with_cell (Some c) = slice_set cells n (f c)

-- the cell after an access was made
abbrev pub with_entry : (column stamp : ℕ) → Option ℤ → CellParts → CellParts
with_entry column stamp write c = record c { entries = c.entries ++ entry_of (record { strand = column; stamp = stamp }) write (entries_value c) ∷ []; room = c.room - 1 }

-- how often accesses of cell c were refused without a break, with one more refused now
abbrev pub tried_again : ℕ → Tail → ℕ
tried_again c r = (if r.cell == c then r.tried else 0) + 1

abbrev pub tried_tail : ℕ → Tail → Tail
tried_tail c r = record { started = true; aborted = 0; tried = tried_again c r; cell = c }

-- the conflict of a refused access
abbrev pub conflict_with : Barrier → (c asker : ℕ) → Refused → List ℕ → Conflict
conflict_with b c asker refused chain = record { cell = c; last = b.last.stamp; asker = asker; block = b.block; victim = refused.victim; attempt = refused.attempt; chain = chain }

-- the row of a strand in which a block has to be rolled back for a refused access
abbrev pub with_victim : Option ℕ → Row → Row
with_victim victim r = record r { now = record r.now { victim = victim } }

-- the row of a new fork of strand s, by its strands and the column of the left one
abbrev pub fork_row : (s column left right : ℕ) → Bool → Row
fork_row s column left right columns = record {
  made = record { strand = s; column = column; elder = None; left = left; right = right; has_columns = columns; attempt = 0 };
  tail = plain_tail;
  now = first_now;
}

-- the row of a new strand
abbrev pub strand_row : (s column : ℕ) → Option ℕ → Row
strand_row s column elder = record {
  made = record { strand = s; column = column; elder = elder; left = 0; right = 0; has_columns = false; attempt = 0 };
  tail = no_tail;
  now = record first_now { place = s };
}

-- the rows of fork f and its strands, with columns l and r
abbrev pub fork_rows : (s l r f : ℕ) → Bool → List Row
fork_rows s l r f columns = fork_row s l (f + 1) (f + 2) columns ∷ strand_row (f + 1) l None ∷ strand_row (f + 2) r (Some (f + 1)) ∷ []

-- the row of a strand that waits for a fork that it made
abbrev pub with_wait : Row → Row
with_wait r = record r { now = record r.now { waits = true } }

-- the number, unless it is b
abbrev pub without_number : ℕ → Option ℕ → Option ℕ
without_number b None = None
without_number b (Some v) = if v == b then None else Some v

-- the row of a strand that goes on at p after block b was rolled back
abbrev pub with_rolled : (p b : ℕ) → Row → Row
with_rolled p b r = record r { now = record r.now { place = p; victim = without_number b r.now.victim } }

-- the children end with a block that was rolled back in attempt n
abbrev pub aborted_tail : ℕ → Tail
aborted_tail n = record { started = true; aborted = n; tried = 0; cell = 0 }
