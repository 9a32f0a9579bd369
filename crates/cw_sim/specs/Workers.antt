-- The state of a simulation: the core, the states of the program's strands, and the workers that run them.
use Rattle.std.specs.Prelude.{ℕ, ℤ, ◌+◌, ◌-◌, ◌==◌, Bool, true, false, List, [], ◌∷◌, ◌++◌, slice_get, slice_set, replicate, Option, Some, None, unwrap_or, if◌then◌else◌}
use Rattle.cw_tree.specs.declared.node.Node.{Node}
use Rattle.cw_core.specs.State.{CoreState, start}

-- A worker. It runs in the left strand of each fork that waits in it. The right strand of such a fork has yet to start.
pub record Worker : Type 0 where
  -- the strand that it runs, or None if it is idle
  pub runs : Option ℕ
  -- the forks that other workers may take from it, oldest first
  pub deque : List ℕ
  -- the forks that others may not take: their strands have no columns
  pub inline : List ℕ

abbrev pub idle : Worker
idle = record { runs = None; deque = []; inline = [] }

-- the forks that wait in a worker
abbrev pub waiting : Worker → List ℕ
waiting w = w.deque ++ w.inline

-- a new fork waits, too: in the deque if it has columns, otherwise inline
abbrev pub with_fork : (columns : Bool) → ℕ → Worker → Worker
with_fork true f w = record w { deque = w.deque ++ f ∷ [] }
with_fork false f w = record w { inline = w.inline ++ f ∷ [] }

abbrev pub worker_in : List Worker → ℕ → Worker
worker_in ws w = unwrap_or (slice_get ws w) idle

-- Strands, forks and blocks are named by their nodes.
pub record Simulation (A : Type 0) : Type 0 where
  pub core : CoreState
  -- the state of each strand
  pub at : ℕ → A
  -- the state of a pending block's strand at the begin of the block
  pub saved : ℕ → A
  pub workers : List Worker

-- the strands of a fork are the two nodes after it
abbrev pub left_node : ℕ → ℕ
left_node f = f + 1

abbrev pub right_node : ℕ → ℕ
right_node f = f + 2

-- the function with the value a at n
abbrev pub changed_at : {A : Type 0} → ℕ → A → (ℕ → A) → ℕ → A
changed_at n a f m = if m == n then a else f m

module _ {A : Type 0} where
  abbrev pub tree : Simulation A → List Node
  tree m = m.core.machine.tree

  abbrev pub worker : Simulation A → ℕ → Worker
  worker m w = worker_in m.workers w

  -- before the first move: worker 0 runs main, which is in this state, and the others are idle
  abbrev pub first_simulation : List ℤ → (room budget workers : ℕ) → A → Simulation A
  first_simulation first room budget workers main = record {
    core = start first room budget;
    at = λ x. main;
    saved = λ b. main;
    workers = record idle { runs = Some 0 } ∷ replicate (workers - 1) idle;
  }

  -- ## What changes

  -- strand x is now in state a
  abbrev pub with_strand : ℕ → A → Simulation A → Simulation A
  with_strand x a m = record m { at = changed_at x a m.at }

  abbrev pub with_worker : ℕ → Worker → Simulation A → Simulation A
  with_worker w x m = record m { workers = slice_set m.workers w x }

  -- worker w goes on with strand x, or is idle
  abbrev pub with_run : ℕ → Option ℕ → Simulation A → Simulation A
  with_run w x m = with_worker w (record (worker m w) { runs = x }) m
