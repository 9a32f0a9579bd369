-- The tier represents the tree, together with all that forks, splits, merges, begins and closes keep.
-- The k-th fork (from 0) that got columns has the columns 2 * k + 1 and 2 * k + 2. `joins` holds the joined forks with columns,
-- whether they had been split or not.
use Rattle.std.specs.Prelude.{◌≡◌, ℕ, ◌+◌, ◌<◌, ◌≤◌, ◌==◌, ◌↔◌, ◌⊎◌, true, false, nat_le, IsTrue, List, length, slice_index, [], ◌∷◌}
use Rattle.cw_tree.specs.declared.node.Node.{Node}
use Rattle.cw_tree.specs.Nodes.{stamp_of, is_pending, is_fork}
use Rattle.cw_tree.specs.Walks.{is_ancestor, has}
use Rattle.cw_trace.specs.Columns.{ColumnTable, used, owner, gap, left_column_of, opening_mark, closing_mark, stands_before, inside}
use Rattle.cw_trace.specs.Stands.{fork_column, column, outermost_pending, stamp_or_0, Descends}
use Rattle.cw_trace.specs.Segments.{Segments, Ups, IsTrace, Forks}

-- no number occurs twice
abbrev pub Distinct : List ℕ → Type 0
Distinct [] = Unit {0}
Distinct (x ∷ xs) = (has xs x ≡ false) × Distinct xs

-- the brackets hold exactly the marks of the traces, and one trace lies inside another exactly if it descends from it
pub record Nesting (c : ColumnTable) (cuts joins : List ℕ) : Type 0 where
  pub distinct : Distinct c.brackets
  pub marks : (b : ℕ) → has c.brackets b ≡ true → (x : ℕ) × IsTrace c cuts joins x × ((b ≡ opening_mark x) ⊎ (b ≡ closing_mark x))
  pub closes : (x : ℕ) → IsTrace c cuts joins x → stands_before c.brackets (opening_mark x) (closing_mark x) ≡ true
  pub descends : (x y : ℕ) → IsTrace c cuts joins x → IsTrace c cuts joins y → inside c y x ≡ true → Descends c x y
  pub within : (x y : ℕ) → IsTrace c cuts joins x → IsTrace c cuts joins y → Descends c x y → inside c y x ≡ true

pub record KeepsAt (size : ℕ) (c : ColumnTable) (words : List ℕ) (t : List Node) (cuts joins : List ℕ) : Type 0 where
  pub segments : Segments c cuts joins (is_pending t) (column t (size))
  pub ups : Ups c cuts joins (is_pending t) (column t (size))
  pub nesting : Nesting c cuts joins
  pub outside : Forks c cuts joins
  -- columns and forks
  pub room : (size ≤ c.room) × (c.room ≤ length words)
  pub forks : (f : ℕ) → is_fork t f ≡ true → IsTrue (nat_le (fork_column t f + 2) c.room) ↔ (fork_column t f + 1 < size)
  pub all_forks : size + 2 ≤ c.room → fork_column t (length t) ≡ size
  pub all_used : (i : ℕ) → i < size → 0 < i → (f : ℕ) × (is_fork t f ≡ true) × (fork_column t f ≡ left_column_of i)
  pub forked_from : (f : ℕ) → is_fork t f ≡ true → fork_column t f + 1 < size → slice_index c.parents (fork_column t f) ≡ column t (size) f
  -- gap words
  pub words_are : (g : ℕ) → g < size → slice_index words g ≡ stamp_or_0 t (outermost_pending t (size) (λ i. gap c i == g))
  pub spare_words : (g : ℕ) → size ≤ g → slice_index words g ≡ 0
  -- a pending block contains what its trace did after the block's begin
  pub contains : (b n : ℕ) → b < length t → n < length t → is_pending t b ≡ true → owner c (column t (size) b) ≡ owner c (column t (size) n) → stamp_of t b < stamp_of t n → is_ancestor t b n ≡ true
  -- a fork of its trace that was not joined lies beneath it, or the block was begun beneath the fork
  pub lines : (b f : ℕ) → is_pending t b ≡ true → is_fork t f ≡ true → fork_column t f + 1 < size → has joins (fork_column t f) ≡ false → owner c (column t (size) b) ≡ owner c (column t (size) f)
      → (is_ancestor t b f ≡ true) ⊎ (fork_column t f ≤ column t (size) b)

abbrev pub Keeps : ColumnTable → List ℕ → List Node → List ℕ → List ℕ → Type 0
Keeps c words t cuts joins = KeepsAt (used c) c words t cuts joins
