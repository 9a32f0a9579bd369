-- Which nodes have something after them in series, by their own parents and by those of the nodes above them.
use Rattle.std.specs.Prelude.{◌≡◌, ℕ, ◌<◌, ◌==◌, ◌||◌, Bool, false, not, IsTrue, List, length, slice_index_or, Some}
use Rattle.std.specs.List.{list_all}
use Rattle.cw_tree.specs.declared.node.Node.{Node}
use Rattle.cw_tree.specs.Nodes.{parent_of, is_fork, is_pending}
use Rattle.cw_tree.specs.Walks.{path, xparent}
use Rattle.cw_tree.specs.Series.{has_later}

-- for each node but the root, whether a child of its parent comes after it
pub record AreLaters (t : List Node) (laters : List Bool) : Type 0 where
  pub len : length laters ≡ length t
  pub each : (n : ℕ) → 0 < n → n < length t → slice_index_or laters n false ≡ has_later t n

-- no child of the parent of node n is after it in series
abbrev pub is_last : List Node → ℕ → Bool
is_last t n = (n == 0) || (is_fork t (parent_of t n) || not (has_later t n))

-- nor is anything else
abbrev pub is_at_end : List Node → ℕ → Bool
is_at_end t n = list_all (is_last t) (path t n)

-- Node n, if it is a pending block, is at its end, and the innermost block above it is pending.
abbrev pub IsPendingLast : List Node → ℕ → Type 0
IsPendingLast t n = IsTrue (is_pending t n) → IsTrue (is_at_end t n) × ((b : ℕ) → xparent t n ≡ Some b → IsTrue (is_pending t b))
