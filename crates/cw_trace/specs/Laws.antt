-- What the calls of a tier keep, for every tree that the tier represents.
use Rattle.std.specs.Prelude.{◌≡◌, ℕ, ◌<◌, ◌≤◌, ◌&&◌, Bool, true, false, List, [], ◌∷◌, ◌++◌, length, slice_index}
use Rattle.cw_tree.specs.declared.node.Node.{Node}
use Rattle.cw_tree.specs.declared.node.Kind.TheVariants.{Strand, Fork, Block}
use Rattle.cw_tree.specs.declared.node.BlockState.{BlockState}
use Rattle.cw_tree.specs.Nodes.{is_pending, is_strand_kind, is_fork_kind, is_block_kind, is_pending_state, stamp_of, fresh_node, closed}
use Rattle.cw_tree.specs.Shape.{IsTree}
use Rattle.cw_tree.specs.NextNodes.{fork_nodes}
use Rattle.cw_trace.specs.Columns.{ColumnTable, used, owner, gap, first_tier, begun_word, closed_word}
use Rattle.cw_trace.specs.Stands.{Stands, GoesOn, column}
use Rattle.cw_trace.specs.Keeps.{Keeps}
use Rattle.cw_trace.specs.Running.{IsOrdered, MayGoOn, IsUnstarted, IsDone, MayJoinAt}

-- what a fork keeps, at each place p at which the strand of column `parent` may go on; word is the word of that strand's gap
abbrev pub ForkKeeps : ℕ → ℕ → ColumnTable → ColumnTable → Type 0
ForkKeeps word parent c d =
    (words : List ℕ) (t : List Node) (cuts joins : List ℕ) (is_open : ℕ → Bool) (p stamp : ℕ) → Keeps c words t cuts joins → IsTree t → ((b : ℕ) → is_pending t b ≡ true → 0 < stamp_of t b)
    → IsOrdered c t cuts joins is_open → MayGoOn c t cuts is_open p → column t (used c) p ≡ parent → word ≡ slice_index words (gap c parent) → Keeps d words (t ++ fork_nodes (length t) p stamp) cuts joins

-- what a split keeps, of a fork that was not joined and has nothing beneath its right strand
abbrev pub SplitKeeps : ℕ → ColumnTable → ColumnTable → Type 0
SplitKeeps f c d = (words : List ℕ) (t : List Node) (cuts joins : List ℕ) → Keeps c words t cuts joins → IsTree t → IsUnstarted t joins f → Keeps d words t (f ∷ cuts) joins

-- what a merge keeps, of the traces of a fork whose strands are no longer open
abbrev pub MergeKeeps : ℕ → ColumnTable → ColumnTable → Type 0
MergeKeeps f c d = (words : List ℕ) (t : List Node) (cuts joins : List ℕ) (is_open : ℕ → Bool) → Keeps c words t cuts joins → IsTree t → IsOrdered c t cuts joins is_open → IsDone t is_open f → Keeps d words t cuts (f ∷ joins)

-- ## The rest of a run: these steps leave the tier as it is

-- `Keeps` implies the reading `Stands`
abbrev pub Reading : Type 0
Reading = (c : ColumnTable) (words : List ℕ) (t : List Node) (cuts joins : List ℕ) → Keeps c words t cuts joins → Stands c words t cuts joins

-- a strand that may go on does so beneath each pending block that was begun in its trace
abbrev pub GoesOnBeneath : Type 0
GoesOnBeneath =
    (c : ColumnTable) (words : List ℕ) (t : List Node) (cuts joins : List ℕ) (is_open : ℕ → Bool) (p : ℕ) → Keeps c words t cuts joins → IsTree t → IsOrdered c t cuts joins is_open → MayGoOn c t cuts is_open p → GoesOn c t (column t (used c) p) p

-- a first tier represents the root strand alone, with all words 0
abbrev pub RootStands : Type 0
RootStands = (room : ℕ) (words : List ℕ) → 0 < room → room ≤ length words → ((g : ℕ) → slice_index words g ≡ 0) → Keeps (first_tier room) words (fresh_node 0 Strand 0 ∷ []) [] []

-- a strand that may go on makes one more node: an access, an output or a refused access
abbrev pub Leaf : Type 0
Leaf =
    (c : ColumnTable) (words : List ℕ) (t : List Node) (cuts joins : List ℕ) (is_open : ℕ → Bool) (p : ℕ) (x : Node) → Keeps c words t cuts joins → IsTree t → IsOrdered c t cuts joins is_open → MayGoOn c t cuts is_open p
    → x.parent ≡ p → is_strand_kind x.kind ≡ false → is_fork_kind x.kind ≡ false → (is_block_kind x.kind && is_pending_state x.state) ≡ false → Keeps c words (t ++ x ∷ []) cuts joins

-- a strand that may go on begins a block, at a stamp that is not below those of its trace
abbrev pub Begin : Type 0
Begin =
    (c : ColumnTable) (words : List ℕ) (t : List Node) (cuts joins : List ℕ) (is_open : ℕ → Bool) (p stamp : ℕ) → Keeps c words t cuts joins → IsTree t → IsOrdered c t cuts joins is_open → MayGoOn c t cuts is_open p
    → ((b : ℕ) → is_pending t b ≡ true → 0 < stamp_of t b) → 0 < stamp → ((m : ℕ) → m < length t → owner c (column t (used c) m) ≡ owner c (column t (used c) p) → stamp_of t m ≤ stamp)
    → Keeps c (begun_word words (gap c (column t (used c) p)) stamp) (t ++ fresh_node p Block stamp ∷ []) cuts joins

-- a strand that may go on closes its pending block
abbrev pub Close : Type 0
Close =
    (c : ColumnTable) (words : List ℕ) (t : List Node) (cuts joins : List ℕ) (is_open : ℕ → Bool) (q end : ℕ) (state : BlockState) → Keeps c words t cuts joins → IsTree t → IsOrdered c t cuts joins is_open → MayGoOn c t cuts is_open q
    → is_pending t q ≡ true → is_pending_state state ≡ false → ((b : ℕ) → is_pending t b ≡ true → 0 < stamp_of t b) → ((b : ℕ) → is_pending t b ≡ true → stamp_of t b ≡ stamp_of t q → b ≡ q)
    → Keeps c (closed_word words (gap c (column t (used c) q)) (stamp_of t q)) (closed t q state end) cuts joins

-- an unsplit fork is joined once its strands are no longer open
abbrev pub Join : Type 0
Join =
    (c : ColumnTable) (words : List ℕ) (t : List Node) (cuts joins : List ℕ) (is_open : ℕ → Bool) (f : ℕ) → Keeps c words t cuts joins → IsTree t → IsOrdered c t cuts joins is_open → MayJoinAt c t cuts joins is_open f → Keeps c words t cuts (f ∷ joins)
