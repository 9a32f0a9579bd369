-- What logs stand for: the tree that they make together; what a board gives when it is closed with them; and when both together are
-- a coherent record.
use Rattle.std.specs.Prelude.{◌≡◌, ◌⊎◌, ℕ, ℤ, ◌+◌, ◌==◌, ◌<◌, ◌&&◌, false, IsTrue, List, [], ◌∷◌, ◌++◌, map, length, Option, Some, None, if◌then◌else◌}
use Rattle.std.specs.Option.{option_map_or}
use Rattle.cw_code.specs.declared.FaultKind.{FaultKind}
use Rattle.cw_strand.specs.declared.want.Want.TheVariants as want
use Rattle.cw_strand.specs.Strands.{Strands, is_over}
use Rattle.cw_tree.specs.declared.node.Node.{Node}
use Rattle.cw_tree.specs.declared.node.BlockState.TheVariants.{Pending}
use Rattle.cw_tree.specs.declared.conflict.Conflict.{Conflict}
use Rattle.cw_tree.specs.declared.closed.Closed.{Closed}
use Rattle.cw_tree.specs.declared.closed.Halt.{Halt}
use Rattle.cw_tree.specs.declared.closed.Halt.TheVariants.{Fault, Budget, Memory}
use Rattle.cw_tree.specs.Nodes.{is_strand, block_with_stamp}
use Rattle.cw_tree.specs.Accesses.{is_live}
use Rattle.cw_tree.specs.Series.{strand_of, place}
use Rattle.cw_tree.specs.Shape.{PendingLast, NonePending}
use Rattle.cw_tree.specs.Walks.{IsNumbered}
use Rattle.cw_tree.specs.Histories.{IsHistory}
use Rattle.cw_tree.specs.Refusals.{victim_of, MayFault, MaySpend}
use Rattle.cw_tree.specs.InOrder.{renamed, in_order, conflicts_in_order, halt_in_order}
use Rattle.cw_record.specs.Coherent.{IsCoherent, Follows, StrandEnded, HasNoOpenFork}
use Rattle.cw_record.specs.Built.{end_left}
use Rattle.cw_log.specs.declared.log.Log.{Log}
use Rattle.cw_log.specs.declared.token.Stop.{Stop}
use Rattle.cw_course.specs.Courses.{Course, Goes, Stops, nothing, act, block, fork, fault, size, logs_of}

-- ## The tree of logs

-- The nodes of a log with the number `base` for its first node, which is its strand and goes beneath the node `under`.
abbrev pub hung : (base under : ℕ) → List Node → List Node
hung base under [] = []
hung base under (x ∷ xs) = record x { parent = under } ∷ map (λ (y : Node). record y { parent = base + y.parent }) xs

-- the number in the tree of the first node of the log with this column, if the logs are laid one after another
abbrev pub base_of : List Log → (column : ℕ) → ℕ
base_of [] c = 0
base_of (l ∷ ls) c = if l.column == c then 0 else length l.nodes + base_of ls c

abbrev pub put_together : (all : List Log) → (base : ℕ) → List Log → List Node
put_together all base [] = []
put_together all base (l ∷ ls) = hung base (base_of all l.from + l.fork) l.nodes ++ put_together all (base + length l.nodes) ls

-- the logs one after another, each beneath the fork from which it hangs
abbrev pub tree_of : List Log → List Node
tree_of all = put_together all 0 all

-- the conflicts of the logs, with the tree's numbers
abbrev pub conflicts_of : (all : List Log) → List Log → List Conflict
conflicts_of all [] = []
conflicts_of all (l ∷ ls) = map (λ (c : Conflict). record c { asker = base_of all l.column + c.asker }) l.conflicts ++ conflicts_of all ls

-- no log has this column
abbrev pub HasNone : (column : ℕ) → List Log → Type 0
HasNone c [] = Unit {0}
HasNone c (l ∷ ls) = ((l.column ≡ c) → ⊥) × HasNone c ls

-- no two logs have the same column
abbrev pub AreApart : List Log → Type 0
AreApart [] = Unit {0}
AreApart (l ∷ ls) = HasNone l.column ls × AreApart ls

-- ## Where a run was stopped

abbrev pub last_of_conflicts : List Conflict → Option Conflict
last_of_conflicts [] = None
last_of_conflicts (c ∷ []) = Some c
last_of_conflicts (c ∷ d ∷ cs) = last_of_conflicts (d ∷ cs)

-- the last conflict of the log with this column
abbrev pub last_conflict : List Log → (column : ℕ) → Option Conflict
last_conflict [] c = None
last_conflict (l ∷ ls) c = if l.column == c then last_of_conflicts l.conflicts else last_conflict ls c

-- The strand that spent its budget by this conflict: the one that began the victim. Without a victim it is strand `x`, which was
-- refused.
abbrev pub spender : List Node → Option Conflict → (x : ℕ) → ℕ
spender t None x = x
spender t (Some c) x = option_map_or (λ v. option_map_or (strand_of t) (block_with_stamp t v) x) (victim_of c) x

-- the halt of a strand, with the strand's number in the tree; the number inside the halt is not read
abbrev pub halt_in : List Log → Option Stop → Option Halt
halt_in all None = None
halt_in all (Some x) = Some (numbered x.halt) where
  numbered : Halt → Halt
  numbered (Fault y kind) = Fault (base_of all x.column + x.strand) kind
  numbered (Budget y) = Budget (spender (tree_of all) (last_conflict all x.column) (base_of all x.column + x.strand))
  numbered Memory = Memory

module _ (kind : FaultKind) (c x : ℕ) where
  -- Strand `x` of the log with column `c` stands at this fault, in the given course. That course belongs to the strand `strand` of
  -- the log with the column `column`, and its nodes there begin with the number `base`. A fault is the last thing in its strand,
  -- and each block around it in that strand is pending.
  abbrev pub FaultsIn : Course → (column strand base : ℕ) → Type 0
  FaultsIn nothing column strand base = ⊥
  FaultsIn (act cs did stamp) column strand base = ⊥
  FaultsIn (block cs Pending stamp end js) column strand base = FaultsIn js column strand (base + size cs + 1)
  FaultsIn (block cs state stamp end js) column strand base = ⊥
  FaultsIn (fork cs None stamp ls rs) column strand base =
      let n = base + size cs in FaultsIn ls column (n + 1) (n + 3) ⊎ FaultsIn rs column (n + 2) (n + 3 + size ls)
  FaultsIn (fork cs (Some right) stamp ls rs) column strand base =
      let n = base + size cs in FaultsIn ls column (n + 1) (n + 2) ⊎ FaultsIn rs right 0 1
  FaultsIn (fault cs met) column strand base = (met ≡ kind) × (column ≡ c) × (strand ≡ x)

-- ## What threads owe

-- a log without its conflicts
abbrev pub bare_log : Log → Log
bare_log l = record l { conflicts = [] }

module _ {A : Type 0} (s : Strands A) where
  -- How a run of main came to its end: by itself, or stopped. If it stopped out of memory, nothing is said.
  abbrev pub Ends : Option Stop → Course → Type 0
  Ends None cs = (b : A) × Goes s s.start cs b × IsTrue (is_over (s.want b))
  Ends (Some x) cs = EndsSo x.halt where
    EndsSo : Halt → Type 0
    EndsSo (Fault y kind) = Stops s s.start cs × FaultsIn kind x.column x.strand cs 0 0 1
    EndsSo (Budget y) = Stops s s.start cs
    EndsSo Memory = Unit {0}

  -- These logs are what the strands of a program did, from main on: each strand once, and no others.
  pub record AreWorked (all : List Log) (stop : Option Stop) : Type 0 where
    pub course : Course
    pub written : map bare_log all ≡ logs_of course 0 0 0
    pub ends : Ends stop course

-- ## What a board owes

-- What logs and a halt become when they are put together: their tree in depth-first order and, with its numbers, their conflicts in
-- the tree's order of askers, and the halt.
pub record IsPutTogether (all : List Log) (stop : Option Stop) (c : Closed) : Type 0 where
  pub apart : AreApart all
  pub numbered : IsNumbered (tree_of all)
  pub tree : c.tree ≡ in_order (tree_of all)
  pub conflicts : c.conflicts ≡ conflicts_in_order (tree_of all) (conflicts_of all all)
  pub halt : c.halt ≡ halt_in_order (tree_of all) (halt_in all stop)

-- What a board gives when it is closed with these logs, if its cells began with the values `first` and a strand may have `budget`
-- attempts.
pub record IsClosing (first : List ℤ) (budget : ℕ) (all : List Log) (stop : Option Stop) (c : Closed) : Type 0 where
  pub together : IsPutTogether all stop c
  pub history : IsHistory c.tree first c.journals c.conflicts
  -- a run that was stopped may have stopped in this way
  pub faulted : MayFault c.tree c.halt
  pub spent : MaySpend c.tree c.conflicts budget c.halt
  -- a run that was not stopped leaves no block pending
  pub finished : c.halt ≡ None → NonePending c.tree

-- ## Laws

-- The tree of these logs has states of its strands before, after and in its nodes, which follow one another as in a coherent
-- record. If the course goes to its end, each live strand has ended. If all blocks around each pending block are pending too, the
-- strand of a fault stands at that fault, with no open fork.
pub record HasStates {A : Type 0} (s : Strands A) (cs : Course) (all : List Log) : Type 0 where
  pub before : ℕ → A
  pub after : ℕ → A
  pub reached : ℕ → A
  pub follows : Follows s (tree_of all) before after reached
  pub ended : (b : A) → Goes s s.start cs b → IsTrue (is_over (s.want b)) → (x : ℕ) → x < length (tree_of all)
      → IsTrue (is_strand (tree_of all) x && is_live (tree_of all) x) → StrandEnded s (tree_of all) before after reached x
  pub stands : PendingLast (tree_of all) → (kind : FaultKind) (c x : ℕ) → FaultsIn kind c x cs 0 0 1
      → (let p = place (tree_of all) (base_of all c + x) in
      (s.want (reached p) ≡ want.Fault kind) × HasNoOpenFork s (tree_of all) before after reached p)

-- Strands alone: what the logs of a course tell is what strands of a coherent record do.
abbrev pub CoursesFollow : Type 0 → Type 0
CoursesFollow A =
    (s : Strands A) (cs : Course) → Stops s s.start cs → AreApart (logs_of cs 0 0 0) → IsNumbered (tree_of (logs_of cs 0 0 0)) → HasStates s cs (logs_of cs 0 0 0)

-- If strands did what they wrote down and the board is closed as above, the record is coherent. A run that stopped out of memory
-- has no record.
abbrev pub WorkedAreCoherent : Type 0 → Type 0
WorkedAreCoherent A =
    (s : Strands A) (first : List ℤ) (budget : ℕ) (all : List Log) (stop : Option Stop) (c : Closed) → AreWorked s all stop → IsClosing first budget all stop c → (c.halt ≡ Some Memory → ⊥)
    → IsCoherent s first budget c.tree c.journals c.conflicts (end_left first budget c false)
