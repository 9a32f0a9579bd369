-- Attempts, by the tree alone: how often a block, or an access, was tried in its place.
use Rattle.std.specs.Prelude.{ℕ, ◌+◌, ◌==◌, Bool, false, nat_lt, List, filter, slice_get, Option, Some, None}
use Rattle.std.specs.List.{suffix_len}
use Rattle.cw_tree.specs.declared.node.Node.{Node}
use Rattle.cw_tree.specs.declared.node.Kind.{Kind}
use Rattle.cw_tree.specs.declared.node.Kind.TheVariants.{Tried}
use Rattle.cw_tree.specs.Nodes.{parent_of, is_aborted}
use Rattle.cw_tree.specs.Series.{children}

-- the children of n's parent before n
abbrev pub elders : List Node → ℕ → List ℕ
elders t n = filter (λ m. nat_lt m n) (children t (parent_of t n))

abbrev pub tried_cell_in : Kind → Option ℕ
tried_cell_in (Tried c) = Some c
tried_cell_in _ = None

-- the cell of the refused access n
abbrev pub tried_cell : List Node → ℕ → Option ℕ
tried_cell t n =
    cell_in (slice_get t n) where
      cell_in : Option Node → Option ℕ
      cell_in None = None
      cell_in (Some node) = tried_cell_in node.kind

abbrev pub same_cell : Option ℕ → Option ℕ → Bool
same_cell (Some c) (Some d) = c == d
same_cell _ _ = false

-- the number of block b among its attempts: the blocks directly before it in its place were rolled back
abbrev pub block_attempt : List Node → ℕ → ℕ
block_attempt t b = suffix_len (is_aborted t) (elders t b) + 1

-- the number of the refused access v among its refusals: the nodes directly before it are refusals of the same cell
abbrev pub access_attempt : List Node → ℕ → ℕ
access_attempt t v = suffix_len (λ m. same_cell (tried_cell t m) (tried_cell t v)) (elders t v) + 1

-- the number of the attempt that was refused with v: the victim's, otherwise that of the access itself
abbrev pub attempt_of : List Node → ℕ → Option ℕ → ℕ
attempt_of t v None = access_attempt t v
attempt_of t v (Some b) = block_attempt t b
