-- What the two orders tell of two nodes.
use Rattle.std.specs.Prelude.{◌≡◌, ◌≢◌, ℕ, ◌<◌, ◌&&◌, false, IsTrue, List, length}
use Rattle.cw_tree.specs.declared.node.Node.{Node}
use Rattle.cw_tree.specs.Walks.{is_ancestor}
use Rattle.cw_tree.specs.Series.{parallel, is_before, depth_first}
use Rattle.cw_tree.specs.Shape.{IsTree}
use Rattle.cw_sp.specs.Orders.{english, hebrew, stands_before, orders_differ, is_leaf}

-- if neither of two nodes is an ancestor of the other, u is before v exactly if it stands first in both orders, and they are parallel exactly
-- if the orders differ on them
abbrev pub TwoOrders : Type 0
TwoOrders =
    (t : List Node) → IsTree t → (u v : ℕ) → u < length t → v < length t → is_ancestor t u v ≡ false → is_ancestor t v u ≡ false
    → (is_before t u v ≡ (stands_before (english t) u v && stands_before (hebrew t) u v)) × (parallel t u v ≡ orders_differ t u v)

-- a leaf is an ancestor of no other node
abbrev pub LeavesAreApart : Type 0
LeavesAreApart = (t : List Node) → IsTree t → (u v : ℕ) → IsTrue (is_leaf t u) → v < length t → u ≢ v → is_ancestor t u v ≡ false

-- so two leaves, which may be one, are parallel exactly if the orders differ on them
abbrev pub LeavesByOrders : Type 0
LeavesByOrders = (t : List Node) → IsTree t → (u v : ℕ) → IsTrue (is_leaf t u) → IsTrue (is_leaf t v) → parallel t u v ≡ orders_differ t u v

-- the English order is the depth-first one
abbrev pub EnglishIsDepthFirst : Type 0
EnglishIsDepthFirst = (t : List Node) → english t ≡ depth_first t
