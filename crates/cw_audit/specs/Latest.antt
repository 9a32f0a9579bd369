-- The greatest stamps in a part of a tree, by the numbers that are at least as great: there each test holds from some number on.
use Rattle.std.specs.Prelude.{◌≡◌, ℕ, ◌-◌, ◌<◌, ◌≤◌, ◌&&◌, false, IsTrue, List, length}
use Rattle.cw_tree.specs.declared.node.Node.{Node}
use Rattle.cw_tree.specs.Nodes.{parent_of, stamp_of, end_of, is_block, is_fork}
use Rattle.cw_tree.specs.Walks.{is_ancestor, is_above}
use Rattle.cw_tree.specs.Shape.{is_closed}
use Rattle.cw_tree.specs.Series.{is_before}

-- k is the least number for which D holds, and D holds for all that are greater
pub record IsLeast (D : ℕ → Type 0) (k : ℕ) : Type 0 where
  pub upward : (v : ℕ) → k ≤ v → D v
  pub least : (v : ℕ) → D v → k ≤ v

-- v is no less than the stamp and the end of node n
abbrev pub Tops : List Node → ℕ → ℕ → Type 0
Tops t n v = (stamp_of t n ≤ v) × (end_of t n ≤ v)

-- nor than those of node n and of what is beneath it
abbrev pub TopsWithin : List Node → ℕ → ℕ → Type 0
TopsWithin t n v = (m : ℕ) → m < length t → IsTrue (is_ancestor t n m) → Tops t m v

-- nor than those of what is beneath node n
abbrev pub TopsBeneath : List Node → ℕ → ℕ → Type 0
TopsBeneath t n v = (m : ℕ) → m < length t → IsTrue (is_above t n m) → Tops t m v

-- nor than those of what is before node m in series, and the begins of the blocks above it
pub record TopsBefore (t : List Node) (m v : ℕ) : Type 0 where
  pub series : (n : ℕ) → n < length t → IsTrue (is_before t n m) → Tops t n v
  pub begun : (b : ℕ) → b < length t → IsTrue (is_block t b && is_above t b m) → stamp_of t b ≤ v

-- nor than what is before the next child of node p, if its children below n are there
pub record TopsBehind (t : List Node) (n p v : ℕ) : Type 0 where
  pub before : TopsBefore t p v
  pub block : IsTrue (is_block t p) → stamp_of t p ≤ v
  pub children : (c : ℕ) → 0 < c → c < n → c < length t → parent_of t c ≡ p → is_fork t p ≡ false → TopsWithin t c v

-- ## What is asked of one node

-- The stamp of a node exceeds all that is before it.
abbrev pub ComesLate : List Node → ℕ → Type 0
ComesLate t m = 0 < stamp_of t m → TopsBefore t m (stamp_of t m - 1)

-- The end of a closed block exceeds all that is beneath it.
abbrev pub EndsLast : List Node → ℕ → Type 0
EndsLast t b = IsTrue (is_closed t b) → (0 < end_of t b) × TopsBeneath t b (end_of t b - 1)
