-- What is true of the tree of a run: its shape, its stamps, and where its pending blocks are.
use Rattle.std.specs.Prelude.{◌≡◌, ℕ, ◌<◌, ◌&&◌, ◌||◌, Bool, false, not, nat_lt, IsTrue, List, [], ◌∷◌, length}
use Rattle.cw_tree.specs.declared.node.Node.{Node}
use Rattle.cw_tree.specs.Nodes.{parent_of, stamp_of, end_of, is_strand, is_fork, is_block, is_pending, is_tried}
use Rattle.cw_tree.specs.Walks.{is_above, IsRooted}
use Rattle.cw_tree.specs.Series.{children, is_before}

-- strands and blocks have children in series, a fork has a left and a right strand, and no other node has children
pub record IsTree (t : List Node) : Type 0 where
  pub some : 0 < length t
  pub rooted : IsRooted t
  pub root : IsTrue (is_strand t 0)
  pub forks : (f : ℕ) → f < length t → IsTrue (is_fork t f) → (l r : ℕ) × (children t f ≡ l ∷ r ∷ []) × IsTrue (is_strand t l && is_strand t r)
  pub strands : (s : ℕ) → s < length t → 0 < s → IsTrue (is_strand t s) → IsTrue (is_fork t (parent_of t s))
  pub parents : (n : ℕ) → n < length t → 0 < n → IsTrue (is_strand t (parent_of t n) || is_fork t (parent_of t n) || is_block t (parent_of t n))

-- a node that has a stamp: strands and refused accesses have none
abbrev pub has_stamp : List Node → ℕ → Bool
has_stamp t n = not (is_strand t n || is_tried t n)

abbrev pub is_closed : List Node → ℕ → Bool
is_closed t n = is_block t n && not (is_pending t n)

-- stamps and end stamps differ, and rise along the tree
pub record AreStamps (t : List Node) : Type 0 where
  pub there : (n : ℕ) → n < length t → nat_lt 0 (stamp_of t n) ≡ has_stamp t n
  pub distinct : (n m : ℕ) → n < length t → m < length t → 0 < stamp_of t n → stamp_of t n ≡ stamp_of t m → n ≡ m
  pub ends_distinct : (n m : ℕ) → n < length t → m < length t → 0 < end_of t n → end_of t n ≡ end_of t m → n ≡ m
  pub apart : (n m : ℕ) → n < length t → m < length t → 0 < end_of t n → end_of t n ≡ stamp_of t m → ⊥
  -- a stamp exceeds those of the nodes before it in series, and the begins of the blocks above it
  pub series : (n m : ℕ) → n < length t → m < length t → IsTrue (is_before t n m) → 0 < stamp_of t m → (stamp_of t n < stamp_of t m) × (end_of t n < stamp_of t m)
  pub begun : (b m : ℕ) → b < length t → m < length t → IsTrue (is_block t b && is_above t b m) → 0 < stamp_of t m → stamp_of t b < stamp_of t m
  -- the end of a block exceeds its begin, and every stamp and end in the block
  pub ended : (b : ℕ) → b < length t → IsTrue (is_closed t b) → stamp_of t b < end_of t b
  pub beneath : (b m : ℕ) → b < length t → m < length t → IsTrue (is_closed t b && is_above t b m) → (stamp_of t m < end_of t b) × (end_of t m < end_of t b)
  pub no_end : (n : ℕ) → n < length t → is_closed t n ≡ false → end_of t n ≡ 0

-- nothing comes after a pending block in series, and the blocks above one are pending
pub record PendingLast (t : List Node) : Type 0 where
  pub last : (n m : ℕ) → n < length t → m < length t → IsTrue (is_pending t n) → is_before t n m ≡ false
  pub around : (b n : ℕ) → b < length t → n < length t → IsTrue (is_pending t n && is_block t b && is_above t b n) → IsTrue (is_pending t b)

-- no block is left pending
abbrev pub NonePending : List Node → Type 0
NonePending t = (n : ℕ) → n < length t → is_pending t n ≡ false
