-- What moves come to is a closed run: it comes of the opening by events that fit, and where it is over the last move ended it as one ends.
use Rattle.std.proofs.Common.{◌≡◌, ℕ, zero, suc, ◌-◌, ◌<◌, List, [], ◌∷◌, ◌++◌, length, refl, ap, sym, ◌∙◌, subst, arith, Bool, true, false, Option, Some, None, inl, inr}
use Rattle.std.specs.Prelude.{not, ℤ, is_some, replicate}
use Rattle.std.proofs.lemmas.Bool.{and_parts, and_from, or_parts, not_from_false}
use Rattle.std.proofs.lemmas.List.{length-replicate}
use Rattle.cw_tree.specs.declared.closed.Halt.{Halt}
use Rattle.cw_tree.specs.Newest.{newest}
use Rattle.cw_strand.specs.Strands.{Strands}
use Rattle.cw_open.specs.Machine.{has_finished}
use Rattle.cw_open.specs.Times.{ReachedInTime}
use Rattle.cw_open.specs.Refused.{as_told}
use Rattle.cw_core.specs.declared.event.Event.{Event}
use Rattle.cw_core.specs.State.{CoreState, start}
use Rattle.cw_core.specs.Events.{fits, after_event, all_fit, after_events}
use Rattle.cw_core.specs.Closing.{journals_of}
use Rattle.cw_core.specs.Laws.{IsCore}
use Rattle.cw_core.proofs.Events.Kept.{lists}
use Rattle.cw_record.specs.ClosedRun.{EndsSo, IsClosedRun}
use Rattle.cw_sim.specs.Workers.{Worker, idle, Simulation, first_simulation}
use Rattle.cw_sim.specs.Moves.{is_run_over, move, after_moves}
use Rattle.cw_sim.specs.Kept.{HasStates, IsKept}
use Rattle.cw_sim.specs.Laws.{AreStrands, ComesByEvents, OpensWell, MovesFit}
use Rattle.cw_sim.specs.Runs.{RunsAreClosed}
use Rattle.cw_sim.proofs.Runs.Ahead.{in_time}
use Rattle.cw_sim.proofs.Runs.Ending.{GoesOrEnds, moved}
use Rattle.cw_sim.proofs.Runs.Entries.{entries_kept}

-- ## Events one after another

fit_more : (k : CoreState) (es fs : List Event) → all_fit k es ≡ true → all_fit (after_events k es) fs ≡ true → all_fit k (es ++ fs) ≡ true
fit_more k [] fs a b = b
fit_more k (e ∷ es) fs a b = let z = and_parts (fits k e) (all_fit (after_event k e) es) a in and_from (fits k e) (all_fit (after_event k e) (es ++ fs)) z.0 (fit_more (after_event k e) es fs z.1 b)

after_more : (k : CoreState) (es fs : List Event) → after_events k (es ++ fs) ≡ after_events (after_events k es) fs
after_more k [] fs = refl
after_more k (e ∷ es) fs = after_more (after_event k e) es fs

come_more : (a b c : CoreState) → ComesByEvents a b → ComesByEvents b c → ComesByEvents a c
come_more a b c x y =
    let P : CoreState → Type 0 = λ k. all_fit k y.events ≡ true in
    record {
      events = x.events ++ y.events;
      fit = fit_more a x.events y.events x.fit (subst P (sym x.there) y.fit);
      there = after_more a x.events y.events ∙ ap (λ (k : CoreState). after_events k y.events) x.there ∙ y.there;
    }

same_budget : (k : CoreState) (es : List Event) → (after_events k es).budget ≡ k.budget
same_budget k [] = refl
same_budget k (e ∷ es) = same_budget (after_event k e) es

-- ## The whole run

module _ {A : Type 0} (s : Strands A) where
  -- what moves came to, from the core before the first
  record IsLeft (from : CoreState) (z : Simulation A) : Type 0 where
    pub comes : ComesByEvents from z.core
    pub states : HasStates s z
    pub ends : GoesOrEnds s z

  -- once it is over nothing moves
  pub stays_over : (turn : ℕ → ℕ) (k n : ℕ) (z : Simulation A) → is_run_over z ≡ true → after_moves s turn k n z ≡ z
  stays_over turn zero n z e = refl
  stays_over turn (suc k) n z e = by (is_run_over z) e where
    by : (b : Bool) → b ≡ true → elim b [ true ↦ z | false ↦ after_moves s turn k (suc n) (move s (turn n) z) ] ≡ z
    by true q = refl
    by false q = absurd (cc q)

  none_halted : (o : Option Halt) → is_some o ≡ false → o ≡ None
  none_halted None e = refl
  none_halted (Some h) e = absurd (cc e)

  goes_so : (budget : ℕ) (before after reached : ℕ → A) (z : Simulation A) → is_run_over z ≡ false → EndsSo s z.core.machine before after reached budget z.core.halt (not (is_run_over z))
  goes_so budget before after reached z off =
      let neither = or_parts (is_some z.core.halt) (has_finished z.core.machine 0) off in
      let P : Bool → Type 0 = λ b. EndsSo s z.core.machine before after reached budget z.core.halt (not b) in
      let Q : Option Halt → Type 0 = λ h. EndsSo s z.core.machine before after reached budget h true in
      subst P (sym off) (subst Q (sym (none_halted z.core.halt neither.0)) (not_from_false (has_finished z.core.machine 0) neither.1))

  -- how it ended, where the last move ended it
  ends_so : (budget : ℕ) (before after reached : ℕ → A) (z : Simulation A) → z.core.budget ≡ budget → EndsSo s z.core.machine before after reached z.core.budget z.core.halt false → (b : Bool) → is_run_over z ≡ b
      → EndsSo s z.core.machine before after reached budget z.core.halt (not (is_run_over z))
  ends_so budget before after reached z same e false q = goes_so budget before after reached z q
  ends_so budget before after reached z same e true q =
      let P : Bool → Type 0 = λ b. EndsSo s z.core.machine before after reached budget z.core.halt (not b) in
      let Q : ℕ → Type 0 = λ n. EndsSo s z.core.machine before after reached n z.core.halt false in
      subst P (sym q) (subst Q same e)

  -- ## From the laws of one move

  module _ (opens : OpensWell s) (moves_fit : MovesFit s)
      (states_after : (first : List ℤ) (m : Simulation A) (w : ℕ) → AreStrands s (length first) → IsKept s first m → HasStates s (move s w m))
      (as_many : (w : ℕ) (m : Simulation A) → length (move s w m).workers ≡ length m.workers) where
    module _ (first : List ℤ) (from : CoreState) (workers : ℕ) (turn : ℕ → ℕ) (are : AreStrands s (length first)) (turns : (n : ℕ) → turn n < workers) where
      left : (k n : ℕ) (m : Simulation A) → ComesByEvents from m.core → IsKept s first m → length m.workers ≡ workers → is_run_over m ≡ false → IsLeft from (after_moves s turn k n m)
      left zero n m comes kept many off = record { comes = comes; states = kept.states; ends = inl off }
      left (suc k) n m comes kept many off = by (is_run_over m) off (λ a b c d. left k (suc n) (move s (turn n) m) a b c d) where
        w : ℕ
        w = turn n

        z : Simulation A
        z = move s w m

        low : w < length m.workers
        low = let h = turns n in omega (arith, many)

        moves : ComesByEvents m.core z.core × (is_run_over z ≡ false → IsKept s first z)
        moves = moves_fit first m w are low kept off

        comes_on : ComesByEvents from z.core
        comes_on = come_more from m.core z.core comes moves.0

        More : Type 0
        More = ComesByEvents from z.core → IsKept s first z → length z.workers ≡ workers → is_run_over z ≡ false → IsLeft from (after_moves s turn k (suc n) z)

        next : (b : Bool) → is_run_over z ≡ b → More → IsLeft from (after_moves s turn k (suc n) z)
        next false e more = more comes_on (moves.1 e) (as_many w m ∙ many) e
        next true e more =
            let P : Simulation A → Type 0 = λ y. IsLeft from y in
            subst P (sym (stays_over turn k (suc n) z e))
            (record { comes = comes_on; states = states_after first m w are kept; ends = moved s first m kept.core off w (kept.workers.fit w) })

        by : (b : Bool) → b ≡ false → More → IsLeft from (elim b [ true ↦ m | false ↦ after_moves s turn k (suc n) z ])
        by true q more = absurd (cc q)
        by false q more = next (is_run_over z) refl more

    count : (workers : ℕ) → 0 < workers → (main : Worker) → length (main ∷ replicate (workers - 1) idle) ≡ workers
    count workers some main = let n = length-replicate (workers - 1) idle in omega (arith, n, some)

    module _ (first : List ℤ) (room budget workers limit : ℕ) (turn : ℕ → ℕ) (are : AreStrands s (length first)) (some : 0 < room) (turns : (n : ℕ) → turn n < workers) where
      abbrev from : CoreState
      from = start first room budget

      abbrev m : Simulation A
      m = first_simulation first room budget workers s.start

      abbrev z : Simulation A
      z = after_moves s turn limit 0 m

      many : length m.workers ≡ workers
      many = let h = turns 0 in count workers (omega arith) (record idle { runs = Some 0 })

      end : IsLeft from z
      end = left first from workers turn are turns limit 0 m (record { events = []; fit = refl; there = refl }) (opens first room budget workers some) many refl

      -- it came by events that fit
      pub comes_left : ComesByEvents from z.core
      comes_left = end.comes

      -- the core that is left
      pub core_left : IsCore first z.core
      core_left = let P : CoreState → Type 0 = λ k. IsCore first k in subst P end.comes.there (lists first room budget end.comes.events some end.comes.fit).2

      run_left : IsClosedRun s first budget z.core.machine (journals_of z.core) z.core.halt (not (is_run_over z))
      run_left =
          let P : CoreState → Type 0 = λ k. ReachedInTime (as_told (λ t us w. newest us)) first k.machine in
          let same : z.core.budget ≡ budget = sym (ap (λ (k : CoreState). k.budget) end.comes.there) ∙ same_budget from end.comes.events in
          let (before, after, reached, standing) = end.states in
          record {
            reached = subst P end.comes.there (in_time first room budget end.comes.events some end.comes.fit);
            complete = core_left.complete;
            entries = entries_kept first z.core core_left;
            states = (
              before,
              after,
              reached,
              standing.states,
              elim end.ends [
                | inl off ↦ goes_so budget before after reached z off
                | inr ends ↦ ends_so budget before after reached z same (ends before after reached standing) (is_run_over z) refl
              ],
            );
          }

    pub closed : RunsAreClosed s
    closed first room budget workers limit turn are some turns = run_left first room budget workers limit turn are some turns
