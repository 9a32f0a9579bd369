-- What holds of the moves of every simulation, over any lawful strands.
use Rattle.std.specs.Prelude.{◌≡◌, ℕ, ℤ, ◌<◌, ◌≤◌, true, false, IsTrue, List, [], ◌∷◌, ◌++◌, length, Some, None}
use Rattle.cw_strand.specs.declared.want.Want.{Want}
use Rattle.cw_strand.specs.declared.want.Want.TheVariants.{Load, Store}
use Rattle.cw_strand.specs.Strands.{Strands, Reached, IsLawful}
use Rattle.cw_core.specs.declared.event.Event.{Event}
use Rattle.cw_core.specs.State.{CoreState, is_split}
use Rattle.cw_core.specs.Events.{is_early, all_fit, after_events}
use Rattle.cw_tree.specs.Nodes.{is_fork}
use Rattle.cw_sim.specs.Workers.{Worker, Simulation, waiting, left_node, tree, worker, first_simulation}
use Rattle.cw_sim.specs.Moves.{is_run_over, move}
use Rattle.cw_sim.specs.Kept.{IsKept}

-- a want names only cells that are there
abbrev pub NamesCell : ℕ → Want → Type 0
NamesCell cells (Load c) = c < cells
NamesCell cells (Store c v) = c < cells
NamesCell cells w = Unit {0}

-- Strands that keep the law, over `cells` cells. Each cell is an element of the strands, so that a strand may be told to put it
-- back.
pub record AreStrands {A : Type 0} (s : Strands A) (cells : ℕ) : Type 0 where
  pub lawful : IsLawful s
  pub there : cells ≤ s.elements
  pub named : (own : List ℕ) (a : A) → Reached s own a → NamesCell cells (s.want a)

-- events lead from one state of the core to the other, and each fits where it comes
pub record ComesByEvents (from to : CoreState) : Type 0 where
  pub events : List Event
  pub fit : IsTrue (all_fit from events)
  pub there : after_events from events ≡ to

-- ## Over any law of strands

module _ {A : Type 0} (s : Strands A) where
  -- Before the first move everything is kept.
  abbrev pub OpensWell : Type 0
  OpensWell = (first : List ℤ) (room budget workers : ℕ) → 0 < room → IsKept s first (first_simulation first room budget workers s.start)

  -- Every event that a move makes fits. While the run is not over, everything is kept.
  abbrev pub MovesFit : Type 0
  MovesFit =
      (first : List ℤ) (m : Simulation A) (w : ℕ) → AreStrands s (length first) → w < length m.workers → IsKept s first m → is_run_over m ≡ false
      → ComesByEvents m.core (move s w m).core × (is_run_over (move s w m) ≡ false → IsKept s first (move s w m))

  -- ## Deques

  -- The oldest fork of a deque is never split too early.
  abbrev pub NoneIsEarly : Type 0
  NoneIsEarly = (first : List ℤ) (m : Simulation A) (w f : ℕ) (fs : List ℕ) → IsKept s first m → (worker m w).deque ≡ f ∷ fs → is_early m.core f ≡ None

  -- Fork f is the newest that waits in a worker, in its deque or inline.
  abbrev pub IsNewestWaiting : Worker → ℕ → Type 0
  IsNewestWaiting w f = (fs : List ℕ) × (waiting w ≡ fs ++ f ∷ [])

  -- If a worker runs the left strand of an unsplit fork, that fork is the newest that waits in the worker.
  abbrev pub ForksAreThere : Type 0
  ForksAreThere =
      (first : List ℤ) (m : Simulation A) (w f : ℕ) → IsKept s first m → is_fork (tree m) f ≡ true → (worker m w).runs ≡ Some (left_node f) → is_split m.core f ≡ false
      → IsNewestWaiting (worker m w) f
