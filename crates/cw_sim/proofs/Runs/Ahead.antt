-- Each stamp of a core's steps is drawn by the step that uses it; so what events that fit come to is reached in time.
use Rattle.std.proofs.Common.{ℕ, ◌<◌, List, [], ◌∷◌, ◌++◌, map, sym, arith, Bool, true, false, cond}
use Rattle.std.specs.Prelude.{ℤ, IsTrue, Option}
use Rattle.cw_tree.specs.declared.closed.Halt.{Halt}
use Rattle.cw_tree.specs.declared.closed.Halt.TheVariants as halt
use Rattle.cw_tree.specs.Newest.{newest}
use Rattle.cw_open.specs.Machine.{OpenMachine}
use Rattle.cw_open.specs.Steps.{Met, Step, refuses, accesses, undoes, aborts, after_open_step as step_after, after_all}
use Rattle.cw_open.specs.Times.{ReachedInTime, AreAhead}
use Rattle.cw_open.specs.Refused.{as_told}
use Rattle.cw_open.proofs.Times.Ahead.{at_once_told, ahead_timely}
use Rattle.cw_core.specs.declared.event.Event.{Event}
use Rattle.cw_core.specs.declared.event.Event.TheVariants as event
use Rattle.cw_core.specs.State.{CoreState, start}
use Rattle.cw_core.specs.Events.{is_met, met_by, next, touched, stop_steps, steps_of, after_event, all_fit, after_events, steps_of_all}
use Rattle.cw_core.proofs.Events.Kept.{lists}

-- steps one after another
ahead_more : (m : OpenMachine) (es fs : List Step) → AreAhead m es → AreAhead (after_all m es) fs → AreAhead m (es ++ fs)
ahead_more m [] fs a b = b
ahead_more m (e ∷ es) fs a b = (a.0, ahead_more (step_after m e) es fs a.1 b)

-- undos draw none, so the abort behind them is ahead
ahead_roll : (m : OpenMachine) (s stamp : ℕ) (cs : List ℕ) → m.clock < stamp → AreAhead m (map (undoes s) cs ++ aborts s stamp ∷ [])
ahead_roll m s stamp [] h = (h, tt)
ahead_roll m s stamp (c ∷ cs) h = (tt, ahead_roll (step_after m (undoes s c)) s stamp cs h)

ahead_access : (m : OpenMachine) (s c : ℕ) (w : Option ℤ) (met : Met) (stamp : ℕ) → m.clock < stamp → (b : Bool) → AreAhead m (cond b (refuses s c w met) (accesses s c w stamp) ∷ [])
ahead_access m s c w met stamp h true = (tt, tt)
ahead_access m s c w met stamp h false = (h, tt)

ahead_stop : (m : OpenMachine) (h : Halt) → AreAhead m (stop_steps h)
ahead_stop m (halt.Fault s kind) = (tt, tt)
ahead_stop m (halt.Budget s) = (tt, tt)
ahead_stop m halt.Memory = tt

ahead_next : (k : CoreState) → k.machine.clock < next k
ahead_next k = omega arith

ahead_event : (k : CoreState) (e : Event) → AreAhead k.machine (steps_of k e)
ahead_event k (event.Fork s) = (ahead_next k, tt)
ahead_event k (event.Begin s) = (ahead_next k, tt)
ahead_event k (event.Access s c w) = ahead_access k.machine s c w (met_by k s c) (next k) (ahead_next k) (is_met k s c)
ahead_event k (event.Out s v) = (ahead_next k, tt)
ahead_event k (event.Cancel s) = (ahead_next k, tt)
ahead_event k (event.Commit s) = (ahead_next k, tt)
ahead_event k (event.Roll s) = ahead_roll k.machine s (next k) (touched k s) (ahead_next k)
ahead_event k (event.Finish s dead) = (tt, tt)
ahead_event k (event.Split f) = tt
ahead_event k (event.Join f) = (tt, tt)
ahead_event k (event.Stop h) = ahead_stop k.machine h

pub ahead_all : (k : CoreState) (es : List Event) → AreAhead k.machine (steps_of_all k es)
ahead_all k [] = tt
ahead_all k (e ∷ es) = ahead_more k.machine (steps_of k e) (steps_of_all (after_event k e) es) (ahead_event k e) (ahead_all (after_event k e) es)

-- a run in time, whose conflicts tell what was met, reaches the state after events that fit
pub in_time : (first : List ℤ) (room budget : ℕ) (es : List Event) → 0 < room → IsTrue (all_fit (start first room budget) es)
    → ReachedInTime (as_told (λ t us w. newest us)) first (after_events (start first room budget) es).machine
in_time first room budget es some fit =
    let k = start first room budget in
    let steps = steps_of_all k es in
    let w = lists first room budget es some fit in
    record { steps = steps; run = at_once_told first steps w.0; there = sym w.1; timely = ahead_timely first steps w.0 (ahead_all k es) }
