-- Spans: for each node its number in depth-first order, and the greatest such number in it. They tell which nodes are above which.
use Rattle.std.specs.Prelude.{◌≡◌, ℕ, ◌<◌, ◌≤◌, IsTrue, List, length, map, slice_index}
use Rattle.cw_tree.specs.declared.node.Node.{Node}
use Rattle.cw_tree.specs.Nodes.{all_nodes}
use Rattle.cw_tree.specs.Walks.{is_ancestor}
use Rattle.cw_tree.specs.InOrder.{renamed}
use Rattle.cw_audit.specs.Latest.{IsLeast}

-- v is no less than the numbers of node n and of what is beneath it
abbrev pub Covers : List Node → ℕ → ℕ → Type 0
Covers t n v = (m : ℕ) → m < length t → IsTrue (is_ancestor t n m) → renamed t m ≤ v

-- the greatest number in each node
pub record AreLast (t : List Node) (last : List ℕ) : Type 0 where
  pub len : length last ≡ length t
  pub each : (n : ℕ) → n < length t → IsLeast (Covers t n) (slice_index last n)

pub record AreSpans (t : List Node) (first last : List ℕ) : Type 0 where
  pub numbers : first ≡ map (renamed t) (all_nodes t)
  pub greatest : AreLast t last
