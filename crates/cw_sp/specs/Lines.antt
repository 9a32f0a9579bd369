-- How a line keeps the leaves of a tree, in the order of a walk.
use Rattle.std.specs.Prelude.{◌≡◌, ℕ, ◌==◌, ◌<◌, ◌≤◌, ◌++◌, List, [], ◌∷◌, Option, None, Some, length, map, filter, slice_index, nat_eq, All, Contains, if◌then◌else◌}
use Rattle.std.specs.List.{IsDistinct}
use Rattle.cw_tree.specs.declared.node.Node.{Node}
use Rattle.cw_sp.specs.declared.line.Line.{Line}
use Rattle.cw_sp.specs.Orders.{is_leaf}

-- what a line needs of a walk: each node that it visits is there, and it visits none twice
pub record IsWalk (t : List Node) (order : List ℕ) : Type 0 where
  pub there : All (λ n. n < length t) order
  pub once : IsDistinct nat_eq order
  pub few : length order ≤ length t

-- `list` has an element for each leaf among `visited`, in this order; `elements` has them by node
pub record KeepsLeaves (t : List Node) (visited list elements : List ℕ) : Type 0 where
  pub nodes : length elements ≡ length t
  pub leaves : list ≡ map (slice_index elements) (filter (is_leaf t) visited)
  pub distinct : IsDistinct nat_eq list

-- the line keeps the leaves in the order of the walk
abbrev pub IsLine : List Node → List ℕ → Line → Type 0
IsLine t order line = KeepsLeaves t order line.list.elements line.elements.items

-- ## Inserting leaves

-- the list with `es` right after a
abbrev pub put_all : ℕ → List ℕ → List ℕ → List ℕ
put_all a es [] = []
put_all a es (x ∷ xs) = if x == a then x ∷ (es ++ xs) else x ∷ put_all a es xs

-- the list with `es` right after a, or first if no a is given
abbrev pub placed_all : Option ℕ → List ℕ → List ℕ → List ℕ
placed_all None es xs = es ++ xs
placed_all (Some a) es xs = put_all a es xs

-- Elements for `leaves` were inserted right after `last`, in this order. They are new, and `numbers` has them by node. Other nodes have
-- what they had in `elements`.
pub record AreInserted (leaves : List ℕ) (last : Option ℕ) (old elements new numbers : List ℕ) : Type 0 where
  pub placed : new ≡ placed_all last (map (slice_index numbers) leaves) old
  pub fresh : (x : ℕ) → Contains old x → Contains (map (slice_index numbers) leaves) x → ⊥
  pub others : (n : ℕ) → (Contains leaves n → ⊥) → slice_index numbers n ≡ slice_index elements n
  pub nodes : length numbers ≡ length elements
  pub distinct : IsDistinct nat_eq new
