-- Simulations of one worker. There is no worker to take a fork from, so left strands go first, and no access is refused.
use Rattle.std.specs.Prelude.{◌≡◌, ℕ, ℤ, ◌<◌, IsTrue, List, [], length}
use Rattle.cw_strand.specs.Strands.{Strands}
use Rattle.cw_open.specs.Steps.{first_machine}
use Rattle.cw_open.specs.LeftFirst.{go_left_first}
use Rattle.cw_core.specs.declared.event.Event.{Event}
use Rattle.cw_core.specs.State.{CoreState, start}
use Rattle.cw_core.specs.Events.{all_fit, after_events, steps_of_all}
use Rattle.cw_record.specs.declared.record.Record.{Record}
use Rattle.cw_record.specs.declared.record_end.RecordEnd.TheVariants.{Budget}
use Rattle.cw_sim.specs.Workers.{Simulation, first_simulation}
use Rattle.cw_sim.specs.Moves.{move, after_moves}
use Rattle.cw_sim.specs.Laws.{AreStrands, ComesByEvents}

-- ## Cores

-- Events that fit lead from the start, with this many columns and attempts, to core k. In their steps left strands go first.
pub record ComesLeftFirst (first : List ℤ) (room budget : ℕ) (k : CoreState) : Type 0 where
  pub events : List Event
  pub fit : IsTrue (all_fit (start first room budget) events)
  pub there : after_events (start first room budget) events ≡ k
  pub left_first : IsTrue (go_left_first (first_machine first) (steps_of_all (start first room budget) events))

-- If no fork is split, left strands go first, so no access is refused.
abbrev pub UnsplitAreUnrefused : Type 0
UnsplitAreUnrefused =
    (first : List ℤ) (room budget : ℕ) (k : CoreState) → 0 < room → ComesByEvents (start first room budget) k → k.splits ≡ []
    → ComesLeftFirst first room budget k × (k.machine.conflicts ≡ [])

-- ## Over any law of strands

module _ {A : Type 0} (s : Strands A) where
  -- A move of the only worker splits no fork.
  abbrev pub OneSplitsNone : Type 0
  OneSplitsNone = (m : Simulation A) (w : ℕ) → length m.workers ≡ 1 → (move s w m).core.splits ≡ m.core.splits

  -- So left strands go first in its moves, however many there are, and no access is refused.
  abbrev pub OneIsUnrefused : Type 0
  OneIsUnrefused =
      (first : List ℤ) (room budget limit : ℕ) (turn : ℕ → ℕ) → AreStrands s (length first) → 0 < room → ((n : ℕ) → turn n < 1)
      → (let m = after_moves s turn limit 0 (first_simulation first room budget 1 s.start) in ComesLeftFirst first room budget m.core × (m.core.machine.conflicts ≡ []))

-- ## Records

-- No access was refused, and no strand has spent its budget.
pub record IsUnrefused (r : Record) : Type 0 where
  pub conflicts : r.conflicts ≡ []
  pub unspent : (x : ℕ) → r.end ≡ Budget x → ⊥
