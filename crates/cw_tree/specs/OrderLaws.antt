-- How a tree in depth-first order relates to the tree that it was made of: its nodes are renamed, but keep what they
-- are and what is above them.
use Rattle.std.specs.Prelude.{◌≡◌, ℕ, ◌<◌, List, length, map, slice_get, option_map}
use Rattle.cw_tree.specs.declared.node.Node.{Node}
use Rattle.cw_tree.specs.Nodes.{all_nodes}
use Rattle.cw_tree.specs.Walks.{IsNumbered, is_ancestor, is_above}
use Rattle.cw_tree.specs.Series.{children, is_before, depth_first}
use Rattle.cw_tree.specs.NextNodes.{IsSound}
use Rattle.cw_tree.specs.InOrder.{renamed, with_parent_renamed, in_order}

-- the new tree is a tree with as many nodes
abbrev pub TreesStay : Type 0
TreesStay = (t : List Node) → IsNumbered t → IsNumbered (in_order t) × (length (in_order t) ≡ length t)

-- each node is there under its new number, and keeps its kind, its state, its stamp and its end
abbrev pub NodesStay : Type 0
NodesStay = (t : List Node) → IsNumbered t → (n : ℕ) → n < length t → (renamed t n < length t) × (slice_get (in_order t) (renamed t n) ≡ option_map (with_parent_renamed t) (slice_get t n))

-- no two nodes have the same new number, and the root keeps its number
abbrev pub NumbersDiffer : Type 0
NumbersDiffer = (t : List Node) → IsNumbered t → (renamed t 0 ≡ 0) × ((n m : ℕ) → n < length t → m < length t → renamed t n ≡ renamed t m → n ≡ m)

-- the same nodes are above a node as before
abbrev pub AncestorsStay : Type 0
AncestorsStay =
    (t : List Node) → IsNumbered t → (a n : ℕ) → a < length t → n < length t
    → (is_ancestor (in_order t) (renamed t a) (renamed t n) ≡ is_ancestor t a n) × (is_above (in_order t) (renamed t a) (renamed t n) ≡ is_above t a n)

-- children stay in their order
abbrev pub SiblingsStay : Type 0
SiblingsStay = (t : List Node) → IsNumbered t → (n : ℕ) → n < length t → children (in_order t) (renamed t n) ≡ map (renamed t) (children t n)

-- the new tree is numbered depth first
abbrev pub NumberedDepthFirst : Type 0
NumberedDepthFirst = (t : List Node) → IsNumbered t → depth_first (in_order t) ≡ all_nodes (in_order t)

-- one node is before another in series exactly if it was so in the old tree
abbrev pub SeriesStay : Type 0
SeriesStay = (t : List Node) → IsNumbered t → (a b : ℕ) → a < length t → b < length t → is_before (in_order t) (renamed t a) (renamed t b) ≡ is_before t a b

-- what is true of the tree of a run is true of the new tree: its shape, its stamps, and that its pending blocks are last
abbrev pub SoundStays : Type 0
SoundStays = (t : List Node) → IsNumbered t → IsSound t → IsSound (in_order t)
