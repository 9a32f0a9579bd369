-- A node that is made next, at a place, and a block that is closed next: where they may be, and what their stamps have to exceed.
use Rattle.std.specs.Prelude.{◌≡◌, ◌≢◌, ℕ, ◌<◌, ◌&&◌, ◌||◌, Bool, false, IsTrue, List, [], ◌∷◌, ◌++◌, length}
use Rattle.cw_tree.specs.declared.node.Node.{Node}
use Rattle.cw_tree.specs.declared.node.Kind.{Kind}
use Rattle.cw_tree.specs.declared.node.Kind.TheVariants.{Strand, Fork}
use Rattle.cw_tree.specs.declared.node.BlockState.{BlockState}
use Rattle.cw_tree.specs.Nodes.{is_strand_kind, is_fork_kind, is_tried_kind, is_pending_state, stamp_of, end_of, is_strand, is_block, is_pending, fresh_node, closed}
use Rattle.cw_tree.specs.Walks.{is_ancestor, is_above}
use Rattle.cw_tree.specs.Series.{is_before}
use Rattle.cw_tree.specs.Shape.{IsTree, AreStamps, PendingLast}

-- a strand or block that may get a next child, or, if it is a block, be closed
pub record IsPlace (t : List Node) (p : ℕ) : Type 0 where
  pub there : p < length t
  pub holds : IsTrue (is_strand t p || is_block t p)
  -- nothing comes after it in series
  pub last : (n : ℕ) → n < length t → is_before t p n ≡ false
  -- every block above it is pending, and so is the place itself if it is a block; no block beneath it is
  pub around : (b : ℕ) → IsTrue (is_block t b && is_ancestor t b p) → IsTrue (is_pending t b)
  pub within : (b : ℕ) → b < length t → IsTrue (is_above t p b) → is_pending t b ≡ false

-- n is before a node that is made next at place p
abbrev pub is_before_at : List Node → ℕ → ℕ → Bool
is_before_at t n p = is_above t p n || is_before t n p

-- nothing has the stamp s
abbrev pub IsFresh : List Node → ℕ → Type 0
IsFresh t s = (n : ℕ) → n < length t → (stamp_of t n ≢ s) × (end_of t n ≢ s)

-- the stamp of a node that is made next at place p exceeds those of the nodes before it in series, and the begins of the blocks above it
pub record IsNextStamp (t : List Node) (p s : ℕ) : Type 0 where
  pub some : 0 < s
  pub fresh : IsFresh t s
  pub series : (n : ℕ) → n < length t → IsTrue (is_before_at t n p) → (stamp_of t n < s) × (end_of t n < s)
  pub begun : (b : ℕ) → b < length t → IsTrue (is_block t b && is_ancestor t b p) → stamp_of t b < s

-- the stamp of the end of block b exceeds its begin, and every stamp and end in the block
pub record IsEndStamp (t : List Node) (b s : ℕ) : Type 0 where
  pub fresh : IsFresh t s
  pub begun : stamp_of t b < s
  pub beneath : (n : ℕ) → n < length t → IsTrue (is_above t b n) → (stamp_of t n < s) × (end_of t n < s)

-- the nodes that a fork at place p adds to a tree of n nodes
abbrev pub fork_nodes : (n p stamp : ℕ) → List Node
fork_nodes n p stamp = fresh_node p Fork stamp ∷ fresh_node n Strand 0 ∷ fresh_node n Strand 0 ∷ []

-- what is true of the tree of a run, except for the nodes that a run adds at its places
pub record IsSound (t : List Node) : Type 0 where
  pub tree : IsTree t
  pub stamps : AreStamps t
  pub pending_last : PendingLast t

-- ## Laws

-- a tree stays sound when a node is added that is neither a strand nor a fork nor a refused access
abbrev pub SoundGrows : Type 0
SoundGrows =
    (t : List Node) (p : ℕ) (kind : Kind) (stamp : ℕ) → IsSound t → IsPlace t p → is_strand_kind kind ≡ false → is_fork_kind kind ≡ false → is_tried_kind kind ≡ false → IsNextStamp t p stamp
    → IsSound (t ++ fresh_node p kind stamp ∷ [])

-- a tree stays sound when an access is refused
abbrev pub SoundRefuses : Type 0
SoundRefuses = (t : List Node) (p : ℕ) (kind : Kind) → IsSound t → IsPlace t p → IsTrue (is_tried_kind kind) → IsSound (t ++ fresh_node p kind 0 ∷ [])

-- a tree stays sound when a strand forks
abbrev pub SoundForks : Type 0
SoundForks = (t : List Node) (p stamp : ℕ) → IsSound t → IsPlace t p → IsNextStamp t p stamp → IsSound (t ++ fork_nodes (length t) p stamp)

-- a tree stays sound when a block is closed, whichever way
abbrev pub SoundCloses : Type 0
SoundCloses = (t : List Node) (b : ℕ) (state : BlockState) (end : ℕ) → IsSound t → IsPlace t b → IsTrue (is_block t b) → is_pending_state state ≡ false → IsEndStamp t b end → IsSound (closed t b state end)
