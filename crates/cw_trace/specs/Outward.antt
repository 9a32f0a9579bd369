-- The forks outward of a fork, as the tree has them: which of them has to be split first.
use Rattle.std.specs.Prelude.{◌≡◌, ℕ, ◌+◌, ◌<◌, Bool, true, false, List, length}
use Rattle.cw_tree.specs.declared.node.Node.{Node}
use Rattle.cw_tree.specs.Nodes.{parent_of, is_fork}
use Rattle.cw_tree.specs.Walks.{has, is_ancestor}
use Rattle.cw_tree.specs.Names.{is_right}
use Rattle.cw_tree.specs.Shape.{IsTree}
use Rattle.cw_trace.specs.Columns.{ColumnTable, used, owner}
use Rattle.cw_trace.specs.Stands.{column, fork_column}
use Rattle.cw_trace.specs.Keeps.{Keeps}
use Rattle.cw_trace.specs.Running.{IsOrdered}

-- node n lies inside the left strand of fork m
pub record IsOutward (t : List Node) (m n : ℕ) : Type 0 where
  pub fork : is_fork t m ≡ true
  pub left : ℕ
  pub some : 0 < left
  pub low : left < length t
  pub child : parent_of t left ≡ m
  pub side : is_right t left ≡ false
  pub over : is_ancestor t left n ≡ true

-- fork m lies outward of n in its trace, and was neither split nor joined
pub record IsBarring (c : ColumnTable) (t : List Node) (cuts joins : List ℕ) (n m : ℕ) : Type 0 where
  pub outward : IsOutward t m n
  pub columns : fork_column t m + 1 < used c
  pub same_trace : owner c (column t (used c) m) ≡ owner c (column t (used c) n)
  pub uncut : has cuts (fork_column t m) ≡ false
  pub unjoined : has joins (fork_column t m) ≡ false

-- In each tree that the tier represents, no fork bars the split of fork n, if n has left column f and was not joined.
abbrev pub NoneBars : ℕ → ColumnTable → Type 0
NoneBars f c =
    (words : List ℕ) (t : List Node) (cuts joins : List ℕ) (is_open : ℕ → Bool) (n : ℕ) → Keeps c words t cuts joins → IsTree t → IsOrdered c t cuts joins is_open → is_fork t n ≡ true → fork_column t n ≡ f → has joins f ≡ false
    → (m : ℕ) → IsBarring c t cuts joins n m → ⊥

-- the fork with left column `before` bars the split of n, and each other fork that bars it lies further out
pub record IsNext (c : ColumnTable) (t : List Node) (cuts joins : List ℕ) (n before : ℕ) : Type 0 where
  pub fork : ℕ
  pub at : fork_column t fork ≡ before
  pub bars : IsBarring c t cuts joins n fork
  pub next : (m : ℕ) → IsBarring c t cuts joins n m → is_ancestor t m fork ≡ true

abbrev pub NextBars : ℕ → ℕ → ColumnTable → Type 0
NextBars f before c =
    (words : List ℕ) (t : List Node) (cuts joins : List ℕ) (is_open : ℕ → Bool) (n : ℕ) → Keeps c words t cuts joins → IsTree t → IsOrdered c t cuts joins is_open → is_fork t n ≡ true → fork_column t n ≡ f → has joins f ≡ false
    → IsNext c t cuts joins n before
