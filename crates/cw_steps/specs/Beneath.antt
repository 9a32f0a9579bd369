-- What is beneath a token's place, and which entries of a cell came before that.
use Rattle.std.specs.Prelude.{ℕ, ◌==◌, ◌<◌, ◌&&◌, nat_lt, not, min, Bool, true, false, All, Contains, List, [], ◌∷◌, ◌++◌, drop, filter, map, Option, Some, None, if◌then◌else◌}
use Rattle.std.specs.List.{filter_map, flat_map, list_any, take_while}
use Rattle.std.specs.List.Sorted.{IsNonDecreasingBy, IsPermutation, IsStrictlyIncreasing}
use Rattle.std.specs.Option.{option_to_list}
use Rattle.cw_tree.specs.declared.access.Entry.{Entry}
use Rattle.cw_tree.specs.declared.node.Node.{Node}
use Rattle.cw_tree.specs.declared.node.Kind.{Kind}
use Rattle.cw_tree.specs.declared.node.Kind.TheVariants as kind
use Rattle.cw_tree.specs.Walks.{has}
use Rattle.cw_log.specs.declared.log.Log.{Log}
use Rattle.cw_log.specs.declared.token.Token.{Token}
use Rattle.cw_steps.specs.declared.written.Touch.{Touch}

-- the cell that a node wrote, or read unless only `writes` count
abbrev pub cell_reached : (writes : Bool) → Kind → Option ℕ
cell_reached w (kind.Read c v) = if w then None else Some c
cell_reached w (kind.Write c v) = Some c
cell_reached w k = None

abbrev pub is_cell : (cell : ℕ) → Option ℕ → Bool
is_cell c None = false
is_cell c (Some d) = d == c

module _ (writes : Bool) where
  -- the cells of these nodes
  abbrev pub cells_reached : List Node → List ℕ
  cells_reached ns = flat_map (λ (x : Node). option_to_list (cell_reached writes x.kind)) ns

  -- the stamps of the nodes of a cell among these
  abbrev pub reaches_in : (cell : ℕ) → List Node → List ℕ
  reaches_in c ns = map (λ (x : Node). x.stamp) (filter (λ (x : Node). is_cell c (cell_reached writes x.kind)) ns)

-- all logs from the first on that hangs from a fork behind this node of the log with this column
abbrev pub logs_beneath : (column place : ℕ) → List Log → List Log
logs_beneath c p [] = []
logs_beneath c p (l ∷ ls) = if (l.from == c) && nat_lt p l.fork then l ∷ ls else logs_beneath c p ls

-- The strand has stood in its innermost pending block since that was begun. So all that its own log got since then lies beneath that
-- block, and all logs from the first on that was joined from a fork there.
abbrev pub nodes_beneath : Token → List Node
nodes_beneath x = drop x.place x.own.nodes ++ flat_map (λ (l : Log). l.nodes) (logs_beneath x.own.column x.place x.joined)

-- the cells that were accessed beneath the place, and those that were written there
abbrev pub cells_beneath : Token → List ℕ
cells_beneath x = cells_reached false (nodes_beneath x)

abbrev pub cells_written_beneath : Token → List ℕ
cells_written_beneath x = cells_reached true (nodes_beneath x)

-- the stamps of the accesses of a cell beneath the place, and of the writes to it there
abbrev pub touched_beneath : Token → (cell : ℕ) → List ℕ
touched_beneath x c = reaches_in false c (nodes_beneath x)

abbrev pub written_beneath : Token → (cell : ℕ) → List ℕ
written_beneath x c = reaches_in true c (nodes_beneath x)

-- The entries of a cell before the first one that is an access beneath the place. Accesses of blocks that were rolled back have no
-- entries, so they count for nothing.
abbrev pub entries_before : Token → (cell : ℕ) → List Entry → List Entry
entries_before x c es = take_while (λ (e : Entry). not (has (touched_beneath x c) e.mark.stamp)) es

-- one of the entries is a write beneath the place
abbrev pub is_written_beneath : Token → (cell : ℕ) → List Entry → Bool
is_written_beneath x c es = list_any (λ (e : Entry). has (written_beneath x c) e.mark.stamp) es

-- some cells that were written beneath the place, by rising number: all those below `cells`
pub record AreWrittenBeneath (x : Token) (cells : ℕ) (written : List ℕ) : Type 0 where
  pub rising : IsStrictlyIncreasing written
  pub each : All (λ (c : ℕ). (c < cells) × Contains (cells_written_beneath x) c) written
  pub all : (c : ℕ) → c < cells → Contains (cells_written_beneath x) c → Contains written c

-- ## All accesses beneath the place

abbrev pub touch_by : (stamp : ℕ) → Kind → Option Touch
touch_by n (kind.Read c v) = Some (record { cell = c; stamp = n; wrote = false })
touch_by n (kind.Write c v) = Some (record { cell = c; stamp = n; wrote = true })
touch_by n k = None

-- the access that a node is, if it is one
abbrev pub touch_of : Node → Option Touch
touch_of x = touch_by x.stamp x.kind

abbrev pub touches_in : List Node → List Touch
touches_in ns = filter_map touch_of ns

-- the accesses of a cell among these
abbrev pub of_cell : (cell : ℕ) → List Touch → List Touch
of_cell c ts = filter (λ (t : Touch). t.cell == c) ts

-- all accesses beneath the place, by the numbers of their cells
pub record AreTouches (x : Token) (ts : List Touch) : Type 0 where
  pub by_cell : IsNonDecreasingBy (λ (t : Touch). t.cell) ts
  pub all : IsPermutation (touches_in (nodes_beneath x)) ts

-- ## The least of some numbers

abbrev pub lesser : Option ℕ → ℕ → Option ℕ
lesser None n = Some n
lesser (Some m) n = Some (min m n)

-- the least of these numbers and the one that was found before
abbrev pub least_with : Option ℕ → List ℕ → Option ℕ
least_with r [] = r
least_with r (n ∷ ns) = least_with (lesser r n) ns
