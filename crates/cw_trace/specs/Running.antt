-- Which nodes are still open, and what the open machine and the rules on splits keep of them.
-- Open are the strands that have not finished, the forks that have not been joined and the pending blocks.
use Rattle.std.specs.Prelude.{◌≡◌, ℕ, ◌+◌, ◌<◌, Bool, true, false, ◌⊎◌, List, length}
use Rattle.cw_tree.specs.declared.node.Node.{Node}
use Rattle.cw_tree.specs.Nodes.{parent_of, is_fork, is_strand, is_pending}
use Rattle.cw_tree.specs.Walks.{is_ancestor, has}
use Rattle.cw_trace.specs.Columns.{ColumnTable, used}
use Rattle.cw_tree.specs.Names.{is_right}
use Rattle.cw_trace.specs.Stands.{fork_column}

-- the fork was not split, or has no columns
abbrev pub IsUnsplit : ColumnTable → List Node → List ℕ → ℕ → Type 0
IsUnsplit c t cuts f = (used c < fork_column t f + 2) ⊎ (has cuts (fork_column t f) ≡ false)

pub record IsOrdered (c : ColumnTable) (t : List Node) (cuts joins : List ℕ) (is_open : ℕ → Bool) : Type 0 where
  pub root : is_open 0 ≡ true
  pub pending : (b : ℕ) → is_pending t b ≡ true → is_open b ≡ true
  pub forks : (f : ℕ) → is_fork t f ≡ true → fork_column t f + 1 < used c → has joins (fork_column t f) ≡ false → is_open f ≡ true
  pub joined : (f : ℕ) → is_fork t f ≡ true → fork_column t f + 1 < used c → is_open f ≡ true → has joins (fork_column t f) ≡ false
  pub kinds : (n : ℕ) → n < length t → is_open n ≡ true → (is_strand t n ≡ true) ⊎ ((is_fork t n ≡ true) ⊎ (is_pending t n ≡ true))
  -- the parent of an open node is open
  pub outer : (n : ℕ) → 0 < n → n < length t → is_open n ≡ true → is_open (parent_of t n) ≡ true
  -- a strand or block has at most one open child
  pub one : (n m : ℕ) → 0 < n → 0 < m → n < length t → m < length t → is_open n ≡ true → is_open m ≡ true → parent_of t n ≡ parent_of t m → is_fork t (parent_of t n) ≡ false → n ≡ m
  -- if a fork is not split, its left strand finished before anything was done in its right strand
  pub left_first : (l r n : ℕ) → 0 < l → l < r → r < length t → parent_of t l ≡ parent_of t r → is_fork t (parent_of t r) ≡ true → IsUnsplit c t cuts (parent_of t r) → n < length t → is_ancestor t r n ≡ true → (n ≡ r → ⊥) → is_open l ≡ false

-- A strand may go on at place p: the place is open, and nothing inside it is. If the strand is the right one of an unsplit fork,
-- the left strand has finished.
pub record MayGoOn (c : ColumnTable) (t : List Node) (cuts : List ℕ) (is_open : ℕ → Bool) (p : ℕ) : Type 0 where
  pub there : p < length t
  pub opened : is_open p ≡ true
  pub no_fork : is_fork t p ≡ false
  pub innermost : (n : ℕ) → 0 < n → n < length t → parent_of t n ≡ p → is_open n ≡ true → ⊥
  pub left_done : (l : ℕ) → 0 < l → l < p → parent_of t l ≡ parent_of t p → is_fork t (parent_of t p) ≡ true → IsUnsplit c t cuts (parent_of t p) → is_open l ≡ false

-- the fork with this left column was not joined, and nothing lies beneath its right strand
pub record IsUnstarted (t : List Node) (joins : List ℕ) (column : ℕ) : Type 0 where
  pub fork : ℕ
  pub is : is_fork t fork ≡ true
  pub at : fork_column t fork ≡ column
  pub unjoined : has joins column ≡ false
  pub right : ℕ
  pub some : 0 < right
  pub low : right < length t
  pub child : parent_of t right ≡ fork
  pub side : is_right t right ≡ true
  pub nothing : (m : ℕ) → 0 < m → m < length t → parent_of t m ≡ right → ⊥

-- the strands of the fork with this left column are no longer open
pub record IsDone (t : List Node) (is_open : ℕ → Bool) (column : ℕ) : Type 0 where
  pub fork : ℕ
  pub is : is_fork t fork ≡ true
  pub at : fork_column t fork ≡ column
  pub done : (s : ℕ) → 0 < s → s < length t → parent_of t s ≡ fork → is_open s ≡ false

-- a fork may be joined without a merge: it has columns, was not split, and its strands are no longer open
pub record MayJoinAt (c : ColumnTable) (t : List Node) (cuts joins : List ℕ) (is_open : ℕ → Bool) (column : ℕ) : Type 0 where
  pub done : IsDone t is_open column
  pub low : column + 1 < used c
  pub uncut : has cuts column ≡ false
