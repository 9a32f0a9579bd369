-- The links of a tree: the children of its nodes from the last on, and a walk along them.
use Rattle.std.specs.Prelude.{◌≡◌, ℕ, Bool, true, false, List, [], ◌∷◌, ◌++◌, length, slice_get, slice_set, Option, Some, None, if◌then◌else◌}
use Rattle.cw_tree.specs.declared.node.Node.{Node}
use Rattle.cw_tree.specs.Nodes.{parent_of, is_aborted}
use Rattle.cw_tree.specs.Links.{last_child, child_before}
use Rattle.cw_core.specs.declared.linked.Link.{Link}

pub record IsLink (t : List Node) (n : ℕ) (r : Link) : Type 0 where
  pub last : last_child t n ≡ r.last
  pub elder : child_before t n ≡ r.elder

-- a link for each node
pub record AreLinks (t : List Node) (links : List Link) : Type 0 where
  pub len : length links ≡ length t
  pub each : (n : ℕ) (r : Link) → slice_get links n ≡ Some r → IsLink t n r

-- the links after node n became the last child of node p
abbrev pub put_link : (p n : ℕ) → List Link → List Link
put_link p n links =
    with_link (slice_get links p) where
      with_link : Option Link → List Link
      with_link None = links
      with_link (Some r) = slice_set links p (record r { last = Some n }) ++ record { last = None; elder = r.last } ∷ []

-- Node n is reached from above (true), or all beneath it is done (false). The walk goes on to the last child of n, to the child
-- before n, or to the parent of n. It leaves out what is beneath an aborted block.
abbrev pub next_in_walk : List Node → ℕ → Bool → ℕ × Bool
next_in_walk t n true = if is_aborted t n then (n, false) else into (last_child t n) where
  into : Option ℕ → ℕ × Bool
  into None = (n, false)
  into (Some c) = (c, true)
next_in_walk t n false =
    past (child_before t n) where
      past : Option ℕ → ℕ × Bool
      past None = (parent_of t n, false)
      past (Some e) = (e, true)
