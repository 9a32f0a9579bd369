-- Order through a run: each step keeps that open nodes are ordered, and who may go on.
-- Open are strands that have not finished, pending blocks, and forks that have not been joined. A fork with columns counts as
-- joined once its traces are merged or its unsplit strands are joined.
use Rattle.std.specs.Prelude.{◌≡◌, ℕ, ◌+◌, ◌<◌, ◌≤◌, ◌%◌, ◌==◌, ◌&&◌, Bool, true, false, nat_lt, List, [], ◌∷◌, ◌++◌, length, slice_index, Option, Some, None, if◌then◌else◌}
use Rattle.cw_tree.specs.declared.node.Node.{Node}
use Rattle.cw_tree.specs.declared.node.Kind.TheVariants.{Strand, Block}
use Rattle.cw_tree.specs.declared.node.BlockState.{BlockState}
use Rattle.cw_tree.specs.Nodes.{parent_of, stamp_of, is_strand, is_fork, is_pending, is_strand_kind, is_fork_kind, is_block_kind, is_pending_state, fresh_node, closed}
use Rattle.cw_tree.specs.NextNodes.{fork_nodes}
use Rattle.cw_trace.specs.Columns.{ColumnTable, used, is_trace, before_split, first_tier, forked, split_at, merged, begun_word, closed_word}
use Rattle.cw_trace.specs.Stands.{column, fork_column}
use Rattle.cw_trace.specs.Running.{MayGoOn, IsUnstarted, IsDone, MayJoinAt}
use Rattle.cw_trace.specs.Hands.{StandsInOrder, gap_at, IsLater}

-- a moment of a run: the columns, the gap words, the tree, the split and the joined forks, and which nodes are open
pub record Moment : Type 0 where
  pub columns : ColumnTable
  pub words : List ℕ
  pub tree : List Node
  pub cuts : List ℕ
  pub joins : List ℕ
  pub is_open : ℕ → Bool

abbrev pub GoesOnAt : Moment → ℕ → Type 0
GoesOnAt s p = MayGoOn s.columns s.tree s.cuts s.is_open p

-- the open nodes after nodes from n on were made: of the new ones, those that pass `new`
abbrev pub opens : ℕ → (ℕ → Bool) → (ℕ → Bool) → ℕ → Bool
opens n new is_open m = if nat_lt m n then is_open m else new m

-- node q is no longer open
abbrev pub shuts : ℕ → (ℕ → Bool) → ℕ → Bool
shuts q is_open m = if m == q then false else is_open m

-- the open nodes after a fork: its three nodes are open
abbrev pub fork_opens : Moment → ℕ → Bool
fork_opens s = opens (length s.tree) (λ m. nat_lt m (length s.tree + 3)) s.is_open

-- one step, by the strand that goes on at a place or by no strand, and the moment after it
pub data TierStep (s : Moment) : Option ℕ → Moment → Type 0 where
  -- an access, an output or a refused access
  leaf : (x : Node) → GoesOnAt s x.parent → is_strand_kind x.kind ≡ false → is_fork_kind x.kind ≡ false → (is_block_kind x.kind && is_pending_state x.state) ≡ false
      → TierStep s (Some x.parent) (record s { tree = s.tree ++ x ∷ []; is_open = opens (length s.tree) (λ m. false) s.is_open })
  begin : (p stamp : ℕ) → GoesOnAt s p → 0 < stamp → IsLater s.columns s.tree p stamp
      → TierStep s (Some p) (record s { words = begun_word s.words (gap_at s.columns s.tree p) stamp; tree = s.tree ++ fresh_node p Block stamp ∷ []; is_open = opens (length s.tree) (λ m. m == length s.tree) s.is_open })
  fork : (p stamp : ℕ) → GoesOnAt s p → used s.columns + 2 ≤ s.columns.room
      → TierStep s (Some p) (record s { columns = forked (slice_index s.words (gap_at s.columns s.tree p)) (column s.tree (used s.columns) p) s.columns; tree = s.tree ++ fork_nodes (length s.tree) p stamp; is_open = fork_opens s })
  inline : (p stamp : ℕ) → GoesOnAt s p → s.columns.room < used s.columns + 2 → TierStep s (Some p) (record s { tree = s.tree ++ fork_nodes (length s.tree) p stamp; is_open = fork_opens s })
  close : (q end : ℕ) (state : BlockState) → GoesOnAt s q → is_pending s.tree q ≡ true → is_pending_state state ≡ false → ((b : ℕ) → is_pending s.tree b ≡ true → stamp_of s.tree b ≡ stamp_of s.tree q → b ≡ q)
      → TierStep s (Some q) (record s { words = closed_word s.words (gap_at s.columns s.tree q) (stamp_of s.tree q); tree = closed s.tree q state end; is_open = shuts q s.is_open })
  -- a strand other than the root finishes
  finish : (x : ℕ) → GoesOnAt s x → is_strand s.tree x ≡ true → 0 < x → TierStep s (Some x) (record s { is_open = shuts x s.is_open })
  split : (f : ℕ) → f < used s.columns → f % 2 ≡ 1 → is_trace s.columns f ≡ false → before_split s.columns f ≡ None → IsUnstarted s.tree s.joins f → TierStep s None (record s { columns = split_at f s.columns; cuts = f ∷ s.cuts })
  merge : (f : ℕ) → f < used s.columns → f % 2 ≡ 1 → is_trace s.columns f ≡ true → (done : IsDone s.tree s.is_open f) → TierStep s None (record s { columns = merged f s.columns; joins = f ∷ s.joins; is_open = shuts done.fork s.is_open })
  -- an unsplit fork is joined, or one without columns
  join : (f : ℕ) → (may : MayJoinAt s.columns s.tree s.cuts s.joins s.is_open f) → TierStep s None (record s { joins = f ∷ s.joins; is_open = shuts may.done.fork s.is_open })
  join_inline : (f : ℕ) → is_fork s.tree f ≡ true → used s.columns < fork_column s.tree f + 2 → ((x : ℕ) → 0 < x → x < length s.tree → parent_of s.tree x ≡ f → s.is_open x ≡ false) → TierStep s None (record s { is_open = shuts f s.is_open })

-- the moments that such steps can reach from the root strand alone
pub data RunsInOrder : Moment → Type 0 where
  start : (room : ℕ) (words : List ℕ) → 0 < room → room ≤ length words → ((g : ℕ) → slice_index words g ≡ 0)
      → RunsInOrder (record { columns = first_tier room; words = words; tree = fresh_node 0 Strand 0 ∷ []; cuts = []; joins = []; is_open = λ m. m == 0 })
  more : (s u : Moment) (who : Option ℕ) → RunsInOrder s → TierStep s who u → RunsInOrder u

-- ## Laws

-- at each moment of a run the tier represents the tree, and the open nodes are ordered
abbrev pub EachMomentStands : Type 0
EachMomentStands = (s : Moment) → RunsInOrder s → StandsInOrder s.columns s.words s.tree s.cuts s.joins s.is_open

-- whoever may go on still may after a step by another strand or by none
abbrev pub OthersGoOn : Type 0
OthersGoOn = (s u : Moment) (who : Option ℕ) (p : ℕ) → RunsInOrder s → TierStep s who u → (who ≡ Some p → ⊥) → GoesOnAt s p → GoesOnAt u p
