-- What is to be shown of a move: its events fit where they come, and while the run is not over the core goes on and the workers fit it.
use Rattle.std.proofs.Common.{◌≡◌, List, [], ◌∷◌, refl, ap, true, false, Some}
use Rattle.std.specs.Prelude.{ℤ, is_some}
use Rattle.std.proofs.lemmas.Bool.{and_from, or_left, or_right}
use Rattle.cw_tree.specs.declared.closed.Halt.{Halt}
use Rattle.cw_open.specs.Machine.{has_finished}
use Rattle.cw_core.specs.declared.event.Event.{Event}
use Rattle.cw_core.specs.State.{CoreState}
use Rattle.cw_core.specs.Events.{fits, after_event, all_fit}
use Rattle.cw_sim.specs.Workers.{Simulation}
use Rattle.cw_sim.specs.Moves.{is_run_over}
use Rattle.cw_sim.specs.Kept.{AreWorkers, CoreGoesOn}
use Rattle.cw_sim.specs.Laws.{ComesByEvents}

-- simulation n comes so of a state of the core
pub record GoesTo {A : Type 0} (first : List ℤ) (k : CoreState) (n : Simulation A) : Type 0 where
  pub comes : ComesByEvents k n.core
  pub kept : is_run_over n ≡ false → CoreGoesOn first n.core × AreWorkers n.core n.workers

module _ {A : Type 0} (first : List ℤ) (n : Simulation A) where
  -- by no event
  pub as_it_is : (is_run_over n ≡ false → CoreGoesOn first n.core × AreWorkers n.core n.workers) → GoesTo first n.core n
  as_it_is kept = record { comes = record { events = []; fit = refl; there = refl }; kept = kept }

  pub goes_on_there : CoreGoesOn first n.core → AreWorkers n.core n.workers → GoesTo first n.core n
  goes_on_there core workers = as_it_is (λ e. (core, workers))

  -- and where the run is over, nothing is to be kept
  pub halted : (h : Halt) → n.core.halt ≡ Some h → GoesTo first n.core n
  halted h e = as_it_is (λ q. absurd (let over = or_left (is_some n.core.halt) (has_finished n.core.machine 0) (ap is_some e) in cc (over, q)))

  pub main_ended : has_finished n.core.machine 0 ≡ true → GoesTo first n.core n
  main_ended e = as_it_is (λ q. absurd (let over = or_right (is_some n.core.halt) (has_finished n.core.machine 0) e in cc (over, q)))

  -- by one event more
  pub by_event : (k : CoreState) (e : Event) → fits k e ≡ true → GoesTo first (after_event k e) n → GoesTo first k n
  by_event k e fit rest = record {
    comes = record { events = e ∷ rest.comes.events; fit = and_from (fits k e) (all_fit (after_event k e) rest.comes.events) fit rest.comes.fit; there = rest.comes.there };
    kept = rest.kept;
  }
