-- What an event leaves as it was.
use Rattle.std.proofs.Common.{◌≡◌, ℕ, List, [], ◌∷◌, ◌++◌, map, refl, ◌∙◌, Bool, true, false, cond, Option}
use Rattle.std.specs.Prelude.{ℤ}
use Rattle.cw_open.specs.Machine.{OpenMachine}
use Rattle.cw_open.specs.Steps.{Met, refuses, accesses, undoes, aborts, after_open_step as step_after, after_all}
use Rattle.cw_trace.specs.Columns.{ColumnTable}
use Rattle.cw_core.specs.declared.event.Event.{Event}
use Rattle.cw_core.specs.declared.event.Event.TheVariants as event
use Rattle.cw_core.specs.State.{CoreState, is_split}
use Rattle.cw_core.specs.Events.{is_stop, after_event, is_met, met_by, next, touched, may_fork, is_early}

-- what a roll leaves of a machine: what its undos and its abort leave
pub rolled : {X : Type 0} (f : OpenMachine → X) (s stamp : ℕ) → ((m : OpenMachine) (c : ℕ) → f (step_after m (undoes s c)) ≡ f m) → ((m : OpenMachine) → f (step_after m (aborts s stamp)) ≡ f m)
    → (m : OpenMachine) (cs : List ℕ) → f (after_all m (map (undoes s) cs ++ aborts s stamp ∷ [])) ≡ f m
rolled f s stamp u a m [] = a m
rolled f s stamp u a m (c ∷ cs) = rolled f s stamp u a (step_after m (undoes s c)) cs ∙ u m c

-- what an access leaves, be it refused or not
accessed : {X : Type 0} (f : OpenMachine → X) (m : OpenMachine) (s c : ℕ) (w : Option ℤ) (met : Met) (stamp : ℕ) → f (step_after m (refuses s c w met)) ≡ f m → f (step_after m (accesses s c w stamp)) ≡ f m
    → (b : Bool) → f (after_all m (cond b (refuses s c w met) (accesses s c w stamp) ∷ [])) ≡ f m
accessed f m s c w met stamp r a true = r
accessed f m s c w met stamp r a false = a

abbrev pub is_join : Event → Bool
is_join (event.Join f) = true
is_join e = false

abbrev pub is_finish : Event → Bool
is_finish (event.Finish s dead) = true
is_finish e = false

abbrev pub is_access : Event → Bool
is_access (event.Access s c w) = true
is_access e = false

module _ (k : CoreState) where
  abbrev m : OpenMachine
  m = k.machine

  pub halt_after : (e : Event) → is_stop e ≡ false → (after_event k e).halt ≡ k.halt
  halt_after (event.Fork s) e = refl
  halt_after (event.Begin s) e = refl
  halt_after (event.Access s c w) e = refl
  halt_after (event.Out s v) e = refl
  halt_after (event.Cancel s) e = refl
  halt_after (event.Commit s) e = refl
  halt_after (event.Roll s) e = refl
  halt_after (event.Finish s dead) e = refl
  halt_after (event.Split f) e = refl
  halt_after (event.Join f) e = refl
  halt_after (event.Stop h) e = absurd (cc e)

  pub stopped_after : (e : Event) → is_stop e ≡ false → (after_event k e).machine.stopped ≡ m.stopped
  stopped_after (event.Fork s) e = refl
  stopped_after (event.Begin s) e = refl
  stopped_after (event.Access s c w) e = accessed (λ m. m.stopped) m s c w (met_by k s c) (next k) refl refl (is_met k s c)
  stopped_after (event.Out s v) e = refl
  stopped_after (event.Cancel s) e = refl
  stopped_after (event.Commit s) e = refl
  stopped_after (event.Roll s) e = rolled (λ m. m.stopped) s (next k) (λ m c. refl) (λ m. refl) m (touched k s)
  stopped_after (event.Finish s dead) e = refl
  stopped_after (event.Split f) e = refl
  stopped_after (event.Join f) e = refl
  stopped_after (event.Stop h) e = absurd (cc e)

  pub joined_after : (e : Event) → is_stop e ≡ false → is_join e ≡ false → (after_event k e).machine.joined ≡ m.joined
  joined_after (event.Fork s) e n = refl
  joined_after (event.Begin s) e n = refl
  joined_after (event.Access s c w) e n = accessed (λ m. m.joined) m s c w (met_by k s c) (next k) refl refl (is_met k s c)
  joined_after (event.Out s v) e n = refl
  joined_after (event.Cancel s) e n = refl
  joined_after (event.Commit s) e n = refl
  joined_after (event.Roll s) e n = rolled (λ m. m.joined) s (next k) (λ m c. refl) (λ m. refl) m (touched k s)
  joined_after (event.Finish s dead) e n = refl
  joined_after (event.Split f) e n = refl
  joined_after (event.Join f) e n = absurd (cc n)
  joined_after (event.Stop h) e n = absurd (cc e)

  pub finished_after : (e : Event) → is_stop e ≡ false → is_finish e ≡ false → (after_event k e).machine.finished ≡ m.finished
  finished_after (event.Fork s) e n = refl
  finished_after (event.Begin s) e n = refl
  finished_after (event.Access s c w) e n = accessed (λ m. m.finished) m s c w (met_by k s c) (next k) refl refl (is_met k s c)
  finished_after (event.Out s v) e n = refl
  finished_after (event.Cancel s) e n = refl
  finished_after (event.Commit s) e n = refl
  finished_after (event.Roll s) e n = rolled (λ m. m.finished) s (next k) (λ m c. refl) (λ m. refl) m (touched k s)
  finished_after (event.Finish s dead) e n = absurd (cc n)
  finished_after (event.Split f) e n = refl
  finished_after (event.Join f) e n = refl
  finished_after (event.Stop h) e n = absurd (cc e)

  pub conflicts_after : (e : Event) → is_stop e ≡ false → is_access e ≡ false → (after_event k e).machine.conflicts ≡ m.conflicts
  conflicts_after (event.Fork s) e n = refl
  conflicts_after (event.Begin s) e n = refl
  conflicts_after (event.Access s c w) e n = absurd (cc n)
  conflicts_after (event.Out s v) e n = refl
  conflicts_after (event.Cancel s) e n = refl
  conflicts_after (event.Commit s) e n = refl
  conflicts_after (event.Roll s) e n = rolled (λ m. m.conflicts) s (next k) (λ m c. refl) (λ m. refl) m (touched k s)
  conflicts_after (event.Finish s dead) e n = refl
  conflicts_after (event.Split f) e n = refl
  conflicts_after (event.Join f) e n = refl
  conflicts_after (event.Stop h) e n = absurd (cc e)

  rooms : (b : Bool) (c d : ColumnTable) → d.room ≡ c.room → (let x : ColumnTable = cond b d c in x.room) ≡ c.room
  rooms true c d e = e
  rooms false c d e = refl

  -- there are as many columns as before
  pub room_after : (e : Event) → (after_event k e).tier.room ≡ k.tier.room
  room_after (event.Fork s) = rooms (may_fork k) k.tier _ refl
  room_after (event.Begin s) = refl
  room_after (event.Access s c w) = refl
  room_after (event.Out s v) = refl
  room_after (event.Cancel s) = refl
  room_after (event.Commit s) = refl
  room_after (event.Roll s) = refl
  room_after (event.Finish s dead) = refl
  room_after (event.Split f) = rooms (Rattle.std.specs.Prelude.is_none (is_early k f)) k.tier _ refl
  room_after (event.Join f) = rooms (is_split k f) k.tier _ refl
  room_after (event.Stop h) = refl
