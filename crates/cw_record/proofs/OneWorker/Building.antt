-- A tree that one worker builds, depth first: each node is added at one place, and what is not above that place is closed.
use Rattle.std.proofs.Common.{◌≡◌, ℕ, suc, ◌<◌, ◌≤◌, List, length, None}
use Rattle.std.specs.Prelude.{◌||◌, IsTrue}
use Rattle.cw_tree.specs.declared.node.Node.{Node}
use Rattle.cw_tree.specs.Nodes.{parent_of, stamp_of, end_of, is_strand, is_fork, is_block, is_pending, is_committed}
use Rattle.cw_tree.specs.Walks.{IsRooted, is_ancestor}
use Rattle.cw_record.specs.declared.items.OrderItem.{OrderItem}
use Rattle.cw_record.specs.Items.{items_in}

-- The next node of tree t goes to place p, and no stamp or end in it is above the clock.
pub record IsBuilt (t : List Node) (p clock : ℕ) : Type 0 where
  pub rooted : IsRooted t
  pub root : IsTrue (is_strand t 0)
  pub top : parent_of t 0 ≡ 0
  pub there : p < length t
  pub place : IsTrue (is_strand t p || is_block t p)
  -- a fork stands in a strand or in a block, and so does a block
  pub forks : (f : ℕ) → IsTrue (is_fork t f) → IsTrue (is_strand t (parent_of t f) || is_block t (parent_of t f))
  pub blocks : (b : ℕ) → IsTrue (is_block t b) → IsTrue (is_strand t (parent_of t b) || is_block t (parent_of t b))
  -- the blocks around the place are pending, and all others committed
  pub pending : (b : ℕ) → IsTrue (is_block t b) → IsTrue (is_ancestor t b p) → IsTrue (is_pending t b)
  pub committed : (b : ℕ) → IsTrue (is_block t b) → (IsTrue (is_ancestor t b p) → ⊥) → IsTrue (is_committed t b)
  -- numbers are depth first
  pub numbered : (n : ℕ) → suc n < length t → IsTrue (is_ancestor t (parent_of t (suc n)) n)
  -- all nodes after one on the way to the place stand beneath it
  pub last : (c m : ℕ) → IsTrue (is_ancestor t c p) → c ≤ m → m < length t → IsTrue (is_ancestor t c m)
  pub stamps : (n : ℕ) → stamp_of t n ≤ clock
  pub ends : (n : ℕ) → end_of t n ≤ clock

-- the items so far, where the pending blocks above place p are open
abbrev pub open_items : List Node → ℕ → List OrderItem
open_items t p = items_in t p (length t) None
