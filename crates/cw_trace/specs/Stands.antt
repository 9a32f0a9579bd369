-- When a tier and gap words represent a tree.
-- Nodes are numbered in the order in which they were made.
-- The k-th fork (from 0) that got columns has the columns 2 * k + 1 and 2 * k + 2.
use Rattle.std.specs.Prelude.{◌≡◌, ℕ, zero, suc, ◌+◌, ◌*◌, ◌<◌, ◌≤◌, ◌==◌, ◌&&◌, ◌||◌, ◌↔◌, Bool, not, nat_lt, nat_le, IsTrue, List, length, filter, find, slice_index, Option, Some, None, is_some, if◌then◌else◌}
use Rattle.cw_tree.specs.declared.node.Node.{Node}
use Rattle.cw_tree.specs.Nodes.{parent_of, stamp_of, is_pending, is_fork, all_nodes, below}
use Rattle.cw_tree.specs.Walks.{is_ancestor, has}
use Rattle.cw_tree.specs.Series.{strand_of}
use Rattle.cw_tree.specs.Names.{is_right}
use Rattle.cw_trace.specs.Columns.{ColumnTable, used, owner, gap, lead, up, head, inside, left_column_of}

-- the left column of a fork node
abbrev pub fork_column : List Node → ℕ → ℕ
fork_column t f = 2 * length (filter (is_fork t) (below f)) + 1

-- the column of strand s if n columns are in use; the strands of an inline fork have the column of the strand that forked
abbrev pub column_in : List Node → ℕ → ℕ → ℕ → ℕ
column_in t n zero s = 0
column_in t n (suc k) zero = 0
column_in t n (suc k) (suc s) =
    let f = parent_of t (suc s) in
    if nat_lt (fork_column t f + 1) n then (if is_right t (suc s) then fork_column t f + 1 else fork_column t f) else column_in t n k (strand_of t f)

-- the column of the strand that node n belongs to
abbrev pub column : List Node → ℕ → ℕ → ℕ
column t n x = column_in t n (strand_of t x) (strand_of t x)

-- the begin stamp of a block, or 0 for none. `outermost_pending` finds the outermost pending block whose strand's column passes a
-- test; outer blocks have smaller numbers.
abbrev pub stamp_or_0 : List Node → Option ℕ → ℕ
stamp_or_0 t None = 0
stamp_or_0 t (Some b) = stamp_of t b

abbrev pub outermost_pending : List Node → ℕ → (ℕ → Bool) → Option ℕ
outermost_pending t n p = find (λ b. is_pending t b && p (column t n b)) (all_nodes t)

-- the word of a gap, or 0 for none
abbrev pub word_of : List ℕ → Option ℕ → ℕ
word_of words None = 0
word_of words (Some g) = slice_index words g

-- whether a column names a trace: it is the root's, or its fork was split and not merged
abbrev pub is_apart : List ℕ → List ℕ → ℕ → Bool
is_apart cuts merges i = has cuts (left_column_of i) && not (has merges (left_column_of i))

abbrev pub names_trace : List ℕ → List ℕ → ℕ → Bool
names_trace cuts merges i = (i == 0) || is_apart cuts merges i

-- the trace around trace t
abbrev pub around : ColumnTable → ℕ → ℕ
around c t = owner c (slice_index c.parents t)

-- trace t was cut at fork f, and the parts have not been put together again
abbrev pub is_cut_at : ColumnTable → List ℕ → List ℕ → ℕ → ℕ → Bool
is_cut_at c cuts merges t f = nat_lt f (used c) && has cuts f && not (has merges f) && (around c f == t)

-- trace u descends from trace t
pub data Descends (c : ColumnTable) (t : ℕ) : ℕ → Type 0 where
  child : {u : ℕ} → 0 < u → around c u ≡ t → Descends c t u
  further : {u : ℕ} → 0 < u → Descends c t (around c u) → Descends c t u

pub record Stands (c : ColumnTable) (words : List ℕ) (t : List Node) (cuts merges : List ℕ) : Type 0 where
  -- columns: each fork gets two while there are two left
  pub some : 0 < used c
  pub room : (used c ≤ c.room) × (c.room ≤ length words)
  pub lengths : (length c.gaps ≡ used c) × (length c.parents ≡ used c) × (length c.traces ≡ used c)
  pub forks : (f : ℕ) → IsTrue (is_fork t f) → IsTrue (nat_le (fork_column t f + 2) c.room) ↔ (fork_column t f + 1 < used c)
  pub all_used : (i : ℕ) → i < used c → 0 < i → (f : ℕ) × IsTrue (is_fork t f) × (fork_column t f ≡ left_column_of i)
  pub forked_from : (f : ℕ) → IsTrue (is_fork t f) → fork_column t f + 1 < used c
      → (slice_index c.parents (fork_column t f) ≡ column t (used c) f) × (slice_index c.parents (fork_column t f + 1) ≡ column t (used c) f)
  -- owners
  pub root : owner c 0 ≡ 0
  pub together : (i : ℕ) → 0 < i → i < used c → IsTrue (not (is_apart cuts merges i)) → owner c i ≡ owner c (slice_index c.parents i)
  pub apart : (i : ℕ) → 0 < i → i < used c → IsTrue (is_apart cuts merges i) → owner c i ≡ i
  -- gap words
  pub words_are : (g : ℕ) → g < used c → slice_index words g ≡ stamp_or_0 t (outermost_pending t (used c) (λ i. gap c i == g))
  -- heads and leads
  pub heads : (x : ℕ) → x < used c → IsTrue (names_trace cuts merges x) → head c x ≡ gap c x
  pub leads : (x : ℕ) → x < used c → IsTrue (names_trace cuts merges x) → word_of words (lead c x) ≡ stamp_or_0 t (outermost_pending t (used c) (λ i. owner c i == x))
  pub active : (x : ℕ) → x < used c → IsTrue (names_trace cuts merges x) → ((f : ℕ) → IsTrue (not (is_cut_at c cuts merges x f))) → lead c x ≡ Some (head c x)
  -- ups
  pub no_up : up c 0 ≡ None
  pub ups : (x : ℕ) → 0 < x → x < used c → IsTrue (names_trace cuts merges x)
      → up c x ≡ (if is_some (outermost_pending t (used c) (λ i. owner c i == around c x)) then Some (around c x) else up c (around c x))
  -- brackets
  pub brackets : (x y : ℕ) → x < used c → y < used c → IsTrue (names_trace cuts merges x) → IsTrue (names_trace cuts merges y) → IsTrue (inside c y x) ↔ Descends c x y
  -- paths: a pending block contains what its trace did after its begin, and the fork at which the trace was cut
  pub contains : (b n : ℕ) → b < length t → n < length t → IsTrue (is_pending t b) → owner c (column t (used c) b) ≡ owner c (column t (used c) n)
      → stamp_of t b < stamp_of t n → IsTrue (is_ancestor t b n)
  pub contains_cut : (b f : ℕ) → b < length t → IsTrue (is_pending t b) → IsTrue (is_fork t f) → IsTrue (is_cut_at c cuts merges (owner c (column t (used c) b)) (fork_column t f))
      → IsTrue (is_ancestor t b f)
  pub one_cut : (x f g : ℕ) → IsTrue (is_cut_at c cuts merges x f) → IsTrue (is_cut_at c cuts merges x g) → f ≡ g

-- a strand at place p in column i goes on beneath each pending block that was begun in its trace
abbrev pub GoesOn : ColumnTable → List Node → ℕ → ℕ → Type 0
GoesOn c t i p = (b : ℕ) → b < length t → IsTrue (is_pending t b) → owner c (column t (used c) b) ≡ owner c i → IsTrue (is_ancestor t b p)
