-- Strands, and the order of a tree's nodes: in series, in parallel, and depth first. Strands and blocks have their
-- children in series, in the order of their numbers. A fork has its children in parallel.
use Rattle.std.specs.Prelude.{ℕ, zero, suc, ◌==◌, ◌&&◌, Bool, not, nat_lt, List, [], ◌∷◌, length, find, filter, unwrap_or}
use Rattle.std.specs.List.{list_any, flat_map}
use Rattle.cw_tree.specs.declared.node.Node.{Node}
use Rattle.cw_tree.specs.Nodes.{parent_of, is_strand, is_fork, is_pending, all_nodes, last_below}
use Rattle.cw_tree.specs.Walks.{path, is_ancestor, lca}

-- the strand that n is in: the innermost strand on its path
abbrev pub strand_of : List Node → ℕ → ℕ
strand_of t n = unwrap_or (find (is_strand t) (path t n)) 0

-- where the next node of strand s goes: its innermost pending block that was begun in it, otherwise the strand itself
abbrev pub place : List Node → ℕ → ℕ
place t s = unwrap_or (last_below (λ n. is_pending t n && (strand_of t n == s)) (length t)) s

-- the last node that strand s made, or the strand itself
abbrev pub last_of : List Node → ℕ → ℕ
last_of t s = unwrap_or (last_below (λ n. strand_of t n == s) (length t)) s

-- the children of n, in order
abbrev pub children : List Node → ℕ → List ℕ
children t n = filter (λ m. nat_lt 0 m && (parent_of t m == n)) (all_nodes t)

-- a child of n's parent comes after n
abbrev pub has_later : List Node → ℕ → Bool
has_later t n = list_any (λ m. nat_lt n m) (children t (parent_of t n))

-- neither is an ancestor of the other, and the two part at a fork
abbrev pub parallel : List Node → ℕ → ℕ → Bool
parallel t a b = not (is_ancestor t a b) && not (is_ancestor t b a) && is_fork t (lca t a b)

-- c and d are children of one node and in series, c first
abbrev pub are_ordered : List Node → ℕ → ℕ → Bool
are_ordered t c d = nat_lt 0 c && nat_lt c d && (parent_of t c == parent_of t d) && not (is_fork t (parent_of t c))

-- a is before b: they are in two children of one node that are in series, or are these children
abbrev pub is_before : List Node → ℕ → ℕ → Bool
is_before t a b = list_any (λ c. list_any (are_ordered t c) (path t b)) (path t a)

-- the nodes from n down, depth first, to k levels; `order` gives the children of a node in the order of their visits
abbrev pub walk_by : (order : ℕ → List ℕ) → ℕ → ℕ → List ℕ
walk_by order zero n = n ∷ []
walk_by order (suc k) n = n ∷ flat_map (walk_by order k) (order n)

-- the same by the numbers of the children
abbrev pub walk : List Node → ℕ → ℕ → List ℕ
walk t = walk_by (children t)

-- all nodes, depth first
abbrev pub depth_first : List Node → List ℕ
depth_first t = walk t (length t) 0
