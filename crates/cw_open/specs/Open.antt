-- Nodes that are still open: something may still be made in them.
use Rattle.std.specs.Prelude.{◌≡◌, ℕ, ◌<◌, ◌&&◌, ◌||◌, Bool, false, true, not, List, length}
use Rattle.cw_tree.specs.declared.node.Node.{Node}
use Rattle.cw_tree.specs.Nodes.{parent_of, is_strand, is_fork, is_pending}
use Rattle.cw_tree.specs.Walks.{has}
use Rattle.cw_open.specs.Machine.{OpenMachine, has_finished}

-- a strand that has not finished, a fork that was not joined, a pending block
abbrev pub is_open : OpenMachine → ℕ → Bool
is_open m n = (is_strand m.tree n && not (has_finished m n)) || (is_fork m.tree n && not (has m.joined n)) || is_pending m.tree n

-- how open nodes are nested
pub record AreNested (t : List Node) (open_at : ℕ → Bool) : Type 0 where
  -- an open node is in an open one
  pub outer : (n : ℕ) → 0 < n → n < length t → open_at n ≡ true → open_at (parent_of t n) ≡ true
  -- only the last child of a strand or block may be open
  pub last : (c d : ℕ) → 0 < c → c < d → d < length t → parent_of t c ≡ parent_of t d → is_fork t (parent_of t c) ≡ false → open_at c ≡ false
