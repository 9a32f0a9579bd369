-- Nodes by their stamps: a sorted list of them, and the node that has a stamp.
use Rattle.std.specs.Prelude.{◌≡◌, ℕ, ◌<◌, Bool, nat_lt, List, length, map, filter, Option, Some, None}
use Rattle.std.specs.List.Sorted.{IsNonDecreasingBy, IsPermutation}
use Rattle.cw_tree.specs.declared.node.Node.{Node}
use Rattle.cw_tree.specs.Nodes.{stamp_of, all_nodes}
use Rattle.cw_audit.specs.declared.stamped.Stamped.{Stamped}

abbrev pub is_stamped : List Node → ℕ → Bool
is_stamped t n = nat_lt 0 (stamp_of t n)

-- a node with its stamp
abbrev pub stamped_node : List Node → ℕ → Stamped
stamped_node t n = record { node = n; stamp = stamp_of t n }

-- all nodes that have a stamp, oldest first
pub record AreByStamp (t : List Node) (xs : List Stamped) : Type 0 where
  pub rise : IsNonDecreasingBy (λ x. x.stamp) xs
  pub same : IsPermutation (map (stamped_node t) (filter (is_stamped t) (all_nodes t))) xs

-- node n is there and has the stamp s
pub record HasStamp (t : List Node) (s n : ℕ) : Type 0 where
  pub there : n < length t
  pub some : 0 < stamp_of t n
  pub same : stamp_of t n ≡ s

-- this is a node that has the stamp s; none if there is none
abbrev pub IsNodeAt : List Node → ℕ → Option ℕ → Type 0
IsNodeAt t s (Some n) = HasStamp t s n
IsNodeAt t s None = (n : ℕ) → HasStamp t s n → ⊥
