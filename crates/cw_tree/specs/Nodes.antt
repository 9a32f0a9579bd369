-- What the nodes of a tree are. A tree is the list of its nodes. A node is named by its position there, its number.
use Rattle.std.specs.Prelude.{ℕ, zero, suc, ◌==◌, ◌&&◌, Bool, true, false, List, [], ◌∷◌, ◌++◌, length, slice_get, slice_set, Option, Some, None, find, if◌then◌else◌}
use Rattle.cw_tree.specs.declared.node.Node.{Node}
use Rattle.cw_tree.specs.declared.node.Kind.{Kind}
use Rattle.cw_tree.specs.declared.node.Kind.TheVariants.{Strand, Fork, Block, Read, Write, Tried}
use Rattle.cw_tree.specs.declared.node.BlockState.{BlockState}
use Rattle.cw_tree.specs.declared.node.BlockState.TheVariants.{Pending, Committed, Aborted}

-- ## Kinds and states

abbrev pub is_strand_kind : Kind → Bool
is_strand_kind Strand = true
is_strand_kind _ = false

abbrev pub is_fork_kind : Kind → Bool
is_fork_kind Fork = true
is_fork_kind _ = false

abbrev pub is_block_kind : Kind → Bool
is_block_kind Block = true
is_block_kind _ = false

-- a read or a write of cell c
abbrev pub touches_kind : ℕ → Kind → Bool
touches_kind c (Read d v) = d == c
touches_kind c (Write d v) = d == c
touches_kind c _ = false

-- a refused access of cell c
abbrev pub tries_kind : ℕ → Kind → Bool
tries_kind c (Tried d) = d == c
tries_kind c _ = false

abbrev pub is_tried_kind : Kind → Bool
is_tried_kind (Tried c) = true
is_tried_kind _ = false

abbrev pub is_pending_state : BlockState → Bool
is_pending_state Pending = true
is_pending_state _ = false

abbrev pub is_committed_state : BlockState → Bool
is_committed_state Committed = true
is_committed_state _ = false

abbrev pub is_aborted_state : BlockState → Bool
is_aborted_state Aborted = true
is_aborted_state _ = false

-- ## A node by its number

abbrev pub passes : (Node → Bool) → Option Node → Bool
passes p None = false
passes p (Some node) = p node

-- node n exists and passes a test
abbrev pub is_node : (Node → Bool) → List Node → ℕ → Bool
is_node p t n = passes p (slice_get t n)

abbrev pub is_strand : List Node → ℕ → Bool
is_strand = is_node (λ x. is_strand_kind x.kind)

abbrev pub is_fork : List Node → ℕ → Bool
is_fork = is_node (λ x. is_fork_kind x.kind)

abbrev pub is_block : List Node → ℕ → Bool
is_block = is_node (λ x. is_block_kind x.kind)

abbrev pub is_pending : List Node → ℕ → Bool
is_pending = is_node (λ x. is_block_kind x.kind && is_pending_state x.state)

abbrev pub is_committed : List Node → ℕ → Bool
is_committed = is_node (λ x. is_block_kind x.kind && is_committed_state x.state)

abbrev pub is_aborted : List Node → ℕ → Bool
is_aborted = is_node (λ x. is_block_kind x.kind && is_aborted_state x.state)

abbrev pub is_tried : List Node → ℕ → Bool
is_tried = is_node (λ x. is_tried_kind x.kind)

abbrev pub touches : List Node → ℕ → ℕ → Bool
touches t c = is_node (λ x. touches_kind c x.kind) t

abbrev pub tries : List Node → ℕ → ℕ → Bool
tries t c = is_node (λ x. tries_kind c x.kind) t

-- a number that node n has, or 0 if there is no such node
abbrev pub number_in : (Node → ℕ) → Option Node → ℕ
number_in f None = 0
number_in f (Some node) = f node

abbrev pub parent_of : List Node → ℕ → ℕ
parent_of t n = number_in (λ x. x.parent) (slice_get t n)

abbrev pub stamp_of : List Node → ℕ → ℕ
stamp_of t n = number_in (λ x. x.stamp) (slice_get t n)

abbrev pub end_of : List Node → ℕ → ℕ
end_of t n = number_in (λ x. x.end) (slice_get t n)

-- the numbers below n, rising
abbrev pub below : ℕ → List ℕ
below zero = []
below (suc n) = below n ++ n ∷ []

abbrev pub all_nodes : List Node → List ℕ
all_nodes t = below (length t)

-- the last number below n that passes a test
abbrev pub last_below : (ℕ → Bool) → ℕ → Option ℕ
last_below p zero = None
last_below p (suc n) = if p n then Some n else last_below p n

-- the first node with a stamp
abbrev pub with_stamp : List Node → ℕ → Option ℕ
with_stamp t stamp = find (λ n. stamp_of t n == stamp) (all_nodes t)

-- the block that was begun at a stamp
abbrev pub block_with_stamp : List Node → ℕ → Option ℕ
block_with_stamp t stamp = find (λ n. is_block t n && (stamp_of t n == stamp)) (all_nodes t)

-- ## New nodes and closed blocks

abbrev pub first_state : Kind → BlockState
first_state Block = Pending
first_state _ = Committed

-- a new node; a block is pending
abbrev pub fresh_node : ℕ → Kind → ℕ → Node
fresh_node parent kind stamp = record { parent = parent; kind = kind; state = first_state kind; stamp = stamp; end = 0 }

-- closes block n
abbrev pub closed : List Node → ℕ → BlockState → ℕ → List Node
closed t n state end =
    close (slice_get t n) where
      close : Option Node → List Node
      close None = t
      close (Some node) = slice_set t n (record node { state = state; end = end })
