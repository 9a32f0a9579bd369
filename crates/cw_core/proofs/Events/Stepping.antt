-- What an event that fits comes to.
use Rattle.std.proofs.Common.{◌≡◌, List, sym, subst, true}
use Rattle.std.specs.Prelude.{ℤ, Result, Ok, Err, OnOk, OnErr}
use Rattle.cw_open.specs.Runs.{IsRun, at_once}
use Rattle.cw_core.specs.declared.event.Event.{Event}
use Rattle.cw_core.specs.State.{CoreState}
use Rattle.cw_core.specs.Events.{fits, after_event, steps_of}
use Rattle.cw_core.specs.Laws.{IsCore, HasChains}
use Rattle.cw_core.proofs.Events.Going.{state}
use Rattle.cw_core.proofs.Events.Kept.{events, cells}

module _ (k : CoreState) (core : IsCore k.machine.first k) (e : Event) (fit : fits k e ≡ true) where
  pub runs : IsRun at_once k.machine (steps_of k e)
  runs = (events k.machine.first k e core fit).0

  -- the core stands for the state after it, over that state's own first values
  pub stands_after : (j : CoreState) (x : Event) → e ≡ x → j ≡ after_event k x → IsCore j.machine.first j
  stands_after j x is same =
      let P : Event → Type 0 = λ x. IsCore k.machine.first (after_event k x) in
      let Q : CoreState → Type 0 = λ j. IsCore k.machine.first j in
      let there : IsCore k.machine.first j = subst Q (sym same) (subst P is (events k.machine.first k e core fit).1) in
      let R : List ℤ → Type 0 = λ vs. IsCore vs j in
      subst R (sym (state k.machine.first j there).values) there

  pub chains_after : (j : CoreState) (x : Event) → e ≡ x → j ≡ after_event k x → HasChains j
  chains_after j x is same = cells j.machine.first j (stands_after j x is same)

  -- and for the old one, where it was not made
  pub stands : {A E : Type 0} → (r : Result A E) (j : CoreState) (x : Event) → e ≡ x → OnOk r (j ≡ after_event k x) → OnErr r (j ≡ k) → IsCore j.machine.first j
  stands (Ok a) j x is ok err = stands_after j x is ok
  stands (Err b) j x is ok err = let P : CoreState → Type 0 = λ j. IsCore j.machine.first j in subst P (sym err) core

  pub chains : {A E : Type 0} → (r : Result A E) (j : CoreState) (x : Event) → e ≡ x → OnOk r (j ≡ after_event k x) → OnErr r (j ≡ k) → HasChains j
  chains r j x is ok err = cells j.machine.first j (stands r j x is ok err)
