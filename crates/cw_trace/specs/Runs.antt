-- Whole runs of a tier: what can be reached from the start by forks, splits, merges, joins, leaves, begins and closes, if each is
-- allowed when it is made.
use Rattle.std.specs.Prelude.{◌≡◌, ℕ, ◌+◌, ◌<◌, ◌≤◌, ◌%◌, ◌&&◌, Bool, true, false, List, [], ◌∷◌, ◌++◌, length, slice_index, None}
use Rattle.cw_tree.specs.declared.node.Node.{Node}
use Rattle.cw_tree.specs.declared.node.Kind.TheVariants.{Strand, Block}
use Rattle.cw_tree.specs.declared.node.BlockState.{BlockState}
use Rattle.cw_tree.specs.Nodes.{is_pending, is_strand_kind, is_fork_kind, is_block_kind, is_pending_state, stamp_of, fresh_node, closed}
use Rattle.cw_tree.specs.Walks.{is_ancestor}
use Rattle.cw_tree.specs.Shape.{IsTree}
use Rattle.cw_trace.specs.Columns.{ColumnTable, used, owner, gap, is_trace, before_split, first_tier, forked, split_at, merged, begun_word, closed_word}
use Rattle.cw_trace.specs.Stands.{GoesOn, Descends, column}
use Rattle.cw_trace.specs.Keeps.{Keeps}
use Rattle.cw_trace.specs.Running.{IsOrdered, MayGoOn, IsUnstarted, IsDone, MayJoinAt}
use Rattle.cw_tree.specs.NextNodes.{fork_nodes}

-- a strand may go on at place p, and pending blocks have stamps
pub record Place (c : ColumnTable) (t : List Node) (cuts joins : List ℕ) (p : ℕ) : Type 0 where
  pub tree : IsTree t
  pub is_open : ℕ → Bool
  pub ordered : IsOrdered c t cuts joins is_open
  pub goes : MayGoOn c t cuts is_open p
  pub stamps : (b : ℕ) → is_pending t b ≡ true → 0 < stamp_of t b

-- the columns, gap words, tree, split forks and joined forks that a run can reach
pub data ReachedTier : ColumnTable → List ℕ → List Node → List ℕ → List ℕ → Type 0 where
  start : (room : ℕ) (words : List ℕ) → 0 < room → room ≤ length words → ((g : ℕ) → slice_index words g ≡ 0) → ReachedTier (first_tier room) words (fresh_node 0 Strand 0 ∷ []) [] []
  fork : (c : ColumnTable) (words : List ℕ) (t : List Node) (cuts joins : List ℕ) (p stamp : ℕ) → ReachedTier c words t cuts joins → Place c t cuts joins p → used c + 2 ≤ c.room
      → ReachedTier (forked (slice_index words (gap c (column t (used c) p))) (column t (used c) p) c) words (t ++ fork_nodes (length t) p stamp) cuts joins
  inline : (c : ColumnTable) (words : List ℕ) (t : List Node) (cuts joins : List ℕ) (p stamp : ℕ) → ReachedTier c words t cuts joins → Place c t cuts joins p → c.room < used c + 2
      → ReachedTier c words (t ++ fork_nodes (length t) p stamp) cuts joins
  split : (c : ColumnTable) (words : List ℕ) (t : List Node) (cuts joins : List ℕ) (f : ℕ) → ReachedTier c words t cuts joins → IsTree t → f < used c → f % 2 ≡ 1 → is_trace c f ≡ false → before_split c f ≡ None → IsUnstarted t joins f
      → ReachedTier (split_at f c) words t (f ∷ cuts) joins
  merge : (c : ColumnTable) (words : List ℕ) (t : List Node) (cuts joins : List ℕ) (f : ℕ) (is_open : ℕ → Bool) → ReachedTier c words t cuts joins → IsTree t → IsOrdered c t cuts joins is_open → f < used c → f % 2 ≡ 1 → is_trace c f ≡ true → IsDone t is_open f
      → ReachedTier (merged f c) words t cuts (f ∷ joins)
  join : (c : ColumnTable) (words : List ℕ) (t : List Node) (cuts joins : List ℕ) (f : ℕ) (is_open : ℕ → Bool) → ReachedTier c words t cuts joins → IsTree t → IsOrdered c t cuts joins is_open → MayJoinAt c t cuts joins is_open f → ReachedTier c words t cuts (f ∷ joins)
  leaf : (c : ColumnTable) (words : List ℕ) (t : List Node) (cuts joins : List ℕ) (x : Node) → ReachedTier c words t cuts joins → Place c t cuts joins x.parent → is_strand_kind x.kind ≡ false → is_fork_kind x.kind ≡ false → (is_block_kind x.kind && is_pending_state x.state) ≡ false
      → ReachedTier c words (t ++ x ∷ []) cuts joins
  begin : (c : ColumnTable) (words : List ℕ) (t : List Node) (cuts joins : List ℕ) (p stamp : ℕ) → ReachedTier c words t cuts joins → Place c t cuts joins p → 0 < stamp → ((m : ℕ) → m < length t → owner c (column t (used c) m) ≡ owner c (column t (used c) p) → stamp_of t m ≤ stamp)
      → ReachedTier c (begun_word words (gap c (column t (used c) p)) stamp) (t ++ fresh_node p Block stamp ∷ []) cuts joins
  close : (c : ColumnTable) (words : List ℕ) (t : List Node) (cuts joins : List ℕ) (q end : ℕ) (state : BlockState) → ReachedTier c words t cuts joins → Place c t cuts joins q → is_pending t q ≡ true → is_pending_state state ≡ false
      → ((b : ℕ) → is_pending t b ≡ true → stamp_of t b ≡ stamp_of t q → b ≡ q) → ReachedTier c (closed_word words (gap c (column t (used c) q)) (stamp_of t q)) (closed t q state end) cuts joins

-- at the end of every run the tier represents the tree
abbrev pub EachRunStands : Type 0
EachRunStands = (c : ColumnTable) (words : List ℕ) (t : List Node) (cuts joins : List ℕ) → ReachedTier c words t cuts joins → Keeps c words t cuts joins

-- and each strand that may go on does so beneath each pending block that was begun in its trace
abbrev pub EachRunGoesOn : Type 0
EachRunGoesOn = (c : ColumnTable) (words : List ℕ) (t : List Node) (cuts joins : List ℕ) (p : ℕ) → ReachedTier c words t cuts joins → Place c t cuts joins p → GoesOn c t (column t (used c) p) p

-- a pending block of a trace is above all that was done in the traces inside that trace
abbrev pub Suspended : Type 0
Suspended =
    (c : ColumnTable) (words : List ℕ) (t : List Node) (cuts joins : List ℕ) → Keeps c words t cuts joins → IsTree t → (b n : ℕ) → n < length t → is_pending t b ≡ true → Descends c (owner c (column t (used c) b)) (owner c (column t (used c) n))
    → is_ancestor t b n ≡ true
