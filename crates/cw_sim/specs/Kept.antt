-- What is true of a simulation between its moves, while it goes on.
use Rattle.std.specs.Prelude.{◌≡◌, ℕ, zero, suc, ◌==◌, ◌&&◌, Bool, true, false, not, List, [], ◌∷◌, ◌++◌, ℤ, Option, Some, None, if◌then◌else◌}
use Rattle.cw_strand.specs.Strands.{Strands}
use Rattle.cw_tree.specs.Nodes.{parent_of, is_strand, is_fork, is_pending}
use Rattle.cw_tree.specs.Walks.{has}
use Rattle.cw_tree.specs.Series.{strand_of, children, place}
use Rattle.cw_tree.specs.Names.{strands_on}
use Rattle.cw_open.specs.Machine.{has_finished, waits, is_running}
use Rattle.cw_core.specs.State.{CoreState, is_split, has_columns, waits_for_left, spent}
use Rattle.cw_core.specs.Laws.{IsCore}
use Rattle.cw_record.specs.ClosedRun.{AreStates}
use Rattle.cw_sim.specs.Workers.{Worker, Simulation, waiting, left_node, right_node, tree, worker_in}

-- ## Forks that wait

-- The forks in whose left strands the first of these strands is, outermost first. The strands lie on the way up from it, innermost
-- first. The way ends with the head of its trace, whose fork is split.
abbrev pub lefts : CoreState → List ℕ → List ℕ
lefts k [] = []
lefts k (y ∷ ys) =
    let f = parent_of k.machine.tree y in
    if is_split k f then [] else if y == left_node f then lefts k ys ++ f ∷ [] else lefts k ys

-- the unsplit forks in whose left strands strand x is, within its trace, outermost first
abbrev pub forks_around : CoreState → ℕ → List ℕ
forks_around k x = lefts k (strands_on k.machine.tree x)

-- Worker w runs strand x. The strand may go on, and exactly the forks around it wait in w. Inline ones are inside all others.
pub record Runs (k : CoreState) (w : Worker) (x : ℕ) : Type 0 where
  pub running : is_running k.machine x ≡ true
  pub ready : waits_for_left k x ≡ false
  pub forks : waiting w ≡ forks_around k x
  pub deque : (f : ℕ) → has w.deque f ≡ true → has_columns k f ≡ true
  pub inline : (f : ℕ) → has w.inline f ≡ true → has_columns k f ≡ false
  -- the right strands of waiting forks have yet to start
  pub to_come : (f : ℕ) → has (waiting w) f ≡ true → has_finished k.machine (right_node f) ≡ false

-- nothing waits in an idle worker
pub record IsIdle (w : Worker) : Type 0 where
  pub deque : w.deque ≡ []
  pub inline : w.inline ≡ []

abbrev pub Fits : CoreState → Worker → Option ℕ → Type 0
Fits k w None = IsIdle w
Fits k w (Some x) = Runs k w x

-- the workers fit the core, run different strands, and no fork waits in two of them
pub record AreWorkers (k : CoreState) (ws : List Worker) : Type 0 where
  pub fit : (w : ℕ) → Fits k (worker_in ws w) (worker_in ws w).runs
  pub apart : (v w x : ℕ) → (worker_in ws v).runs ≡ Some x → (worker_in ws w).runs ≡ Some x → v ≡ w
  pub once : (v w f : ℕ) → has (waiting (worker_in ws v)) f ≡ true → has (waiting (worker_in ws w)) f ≡ true → v ≡ w

-- ## The core

-- the core goes on, and its forks are as they were made
pub record CoreGoesOn (first : List ℤ) (k : CoreState) : Type 0 where
  pub core : IsCore first k
  pub halt : k.halt ≡ None
  pub spent : spent k ≡ None
  pub stopped : k.machine.stopped ≡ []
  pub forks : (f : ℕ) → is_fork k.machine.tree f ≡ true → children k.machine.tree f ≡ left_node f ∷ right_node f ∷ []
  -- forks are split from the outside in
  pub outside : (f : ℕ) → is_fork k.machine.tree f ≡ true → has k.machine.joined f ≡ false → is_split k f ≡ true → forks_around k (strand_of k.machine.tree f) ≡ []

-- ## The states of strands

-- the strand's own fork, if it has one, is not joined
abbrev pub is_current : CoreState → ℕ → Bool
is_current k zero = true
is_current k (suc x) = is_strand k.machine.tree (suc x) && not (has k.machine.joined (parent_of k.machine.tree (suc x)))

module _ {A : Type 0} (s : Strands A) where
  -- With these states before, after and in each node, the tree is what the strands did, and its states are those of the strands.
  pub record AreStanding (m : Simulation A) (before after reached : ℕ → A) : Type 0 where
    pub states : AreStates s m.core.machine before after reached
    -- a strand that waits is in the state before its fork
    pub forks : (f : ℕ) → is_fork (tree m) f ≡ true → has m.core.machine.joined f ≡ false → before f ≡ m.at (strand_of (tree m) f)
    -- any other strand is in the state that was reached in it
    pub strands : (x : ℕ) → is_current m.core x ≡ true → waits m.core.machine x ≡ false → reached (place (tree m) x) ≡ m.at x
    -- what is saved for a pending block is the state of its strand at its begin
    pub saved : (b : ℕ) → is_pending (tree m) b ≡ true → before b ≡ m.saved b

  abbrev pub HasStates : Simulation A → Type 0
  HasStates m = (before after reached : ℕ → A) × AreStanding m before after reached

  -- ## The whole

  pub record IsKept (first : List ℤ) (m : Simulation A) : Type 0 where
    pub core : CoreGoesOn first m.core
    pub workers : AreWorkers m.core m.workers
    pub states : HasStates m
