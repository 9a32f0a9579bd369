-- The two depth-first orders of a tree. The English order visits the left strand of a fork first, the Hebrew order the right one.
use Rattle.std.specs.Prelude.{ℕ, ◌||◌, Bool, not, nat_lt, List, length, reverse, if◌then◌else◌}
use Rattle.cw_order.specs.Order.{position}
use Rattle.cw_tree.specs.declared.node.Node.{Node}
use Rattle.cw_tree.specs.Nodes.{is_node, is_fork, is_strand_kind, is_fork_kind, is_block_kind}
use Rattle.cw_tree.specs.Series.{children, walk_by}

-- the children of n, those of a fork from right to left
abbrev pub mirrored : List Node → ℕ → List ℕ
mirrored t n = if is_fork t n then reverse (children t n) else children t n

-- all nodes, in English and in Hebrew order
abbrev pub english : List Node → List ℕ
english t = walk_by (children t) (length t) 0

abbrev pub hebrew : List Node → List ℕ
hebrew t = walk_by (mirrored t) (length t) 0

-- u stands before v in a list
abbrev pub stands_before : List ℕ → ℕ → ℕ → Bool
stands_before ns u v = nat_lt (position ns u) (position ns v)

-- one of u and v stands first in the English order, and the other one in the Hebrew order
abbrev pub orders_differ : List Node → ℕ → ℕ → Bool
orders_differ t u v = if stands_before (english t) u v then not (stands_before (hebrew t) u v) else stands_before (hebrew t) u v

-- a node that is no strand, fork or block
abbrev pub is_leaf : List Node → ℕ → Bool
is_leaf = is_node (λ x. not (is_strand_kind x.kind || is_fork_kind x.kind || is_block_kind x.kind))
