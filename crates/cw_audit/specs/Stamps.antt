-- What the first part asks of each node by itself, and the stamps and ends of a tree in one list.
use Rattle.std.specs.Prelude.{◌≡◌, ℕ, ◌<◌, ◌++◌, [], ◌∷◌, false, nat_lt, IsTrue, List, if◌then◌else◌}
use Rattle.cw_tree.specs.declared.node.Node.{Node}
use Rattle.cw_tree.specs.Nodes.{stamp_of, end_of}
use Rattle.cw_tree.specs.Shape.{has_stamp, is_closed}

-- A node has a stamp if its kind has one, and an end if it is a closed block. A block ends after its begin.
pub record HasItsStamps (t : List Node) (n : ℕ) : Type 0 where
  pub there : nat_lt 0 (stamp_of t n) ≡ has_stamp t n
  pub ended : IsTrue (is_closed t n) → stamp_of t n < end_of t n
  pub no_end : is_closed t n ≡ false → end_of t n ≡ 0

-- a number, if it is not 0
abbrev pub if_some : ℕ → List ℕ
if_some s = if nat_lt 0 s then s ∷ [] else []

-- the stamp and the end of a node, if it has them
abbrev pub times_of : List Node → ℕ → List ℕ
times_of t n = if_some (stamp_of t n) ++ if_some (end_of t n)
