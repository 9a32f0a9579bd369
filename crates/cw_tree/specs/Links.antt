-- What one pass over a tree links: the last child of a node, and the child before one.
use Rattle.std.specs.Prelude.{◌≡◌, ℕ, ◌==◌, ◌&&◌, Bool, nat_lt, List, map, length, Option}
use Rattle.cw_tree.specs.declared.node.Node.{Node}
use Rattle.cw_tree.specs.Nodes.{parent_of, all_nodes, last_below}

-- m is a child of n
abbrev pub is_child : List Node → ℕ → ℕ → Bool
is_child t n m = nat_lt 0 m && (parent_of t m == n)

abbrev pub last_child : List Node → ℕ → Option ℕ
last_child t n = last_below (is_child t n) (length t)

-- the last child of c's parent before c
abbrev pub child_before : List Node → ℕ → Option ℕ
child_before t c = last_below (is_child t (parent_of t c)) c

-- the last child of each node of tree t, and the child before each
pub record AreFamilyLinks (t : List Node) (lasts befores : List (Option ℕ)) : Type 0 where
  pub last : lasts ≡ map (last_child t) (all_nodes t)
  pub before : befores ≡ map (child_before t) (all_nodes t)
