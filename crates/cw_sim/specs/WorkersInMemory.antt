-- Workers in memory.
use Rattle.std.specs.Prelude.{◌≡◌, ℕ, suc, ◌+◌, ◌-◌, ◌%◌, ◌==◌, false, not, List, [], ◌∷◌, ◌++◌, map, filter, Option, Some, None}
use Rattle.cw_tree.specs.Nodes.{below}
use Rattle.cw_tree.specs.Walks.{has}
use Rattle.cw_sim.specs.Workers.{Worker, waiting, worker_in}
use Rattle.cw_sim.specs.declared.worker.WorkerInMemory.{WorkerInMemory}

-- the worker that one in memory represents
abbrev pub worker_of : WorkerInMemory → Worker
worker_of w = record { runs = w.runs; deque = w.deque.items; inline = w.inline.items }

abbrev pub workers_of : List WorkerInMemory → List Worker
workers_of ws = map worker_of ws

-- the workers after w, going round, if there are `count` of them
abbrev pub workers_next : (w count : ℕ) → List ℕ
workers_next w count = map (λ i. (w + suc i) % count) (below (count - 1))

-- the first of these workers whose deque is not empty
abbrev pub first_with_forks : List Worker → List ℕ → Option ℕ
first_with_forks ws [] = None
first_with_forks ws (v ∷ vs) = elim (worker_in ws v).deque [ [] ↦ first_with_forks ws vs | f ∷ fs ↦ Some v ]

-- Fork f waits last in a worker, and nowhere else in it.
pub record IsLast (w : Worker) (f : ℕ) : Type 0 where
  pub before : List ℕ
  pub all : waiting w ≡ before ++ f ∷ []
  pub once : has before f ≡ false

-- fork f no longer waits
abbrev pub without_waiting : ℕ → Worker → Worker
without_waiting f w = record w { deque = filter (λ g. not (g == f)) w.deque; inline = filter (λ g. not (g == f)) w.inline }
