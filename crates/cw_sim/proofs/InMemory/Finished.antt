-- A strand has finished: what a simulation in memory stands for then.
use Rattle.std.proofs.Common.{◌≡◌, ℕ, ap, ◌∙◌, Bool, true, false, nat_eq, cond}
use Rattle.std.specs.Prelude.{◌&&◌, ◌||◌, not, is_none}
use Rattle.std.proofs.lemmas.Bool.{and_parts, or_parts, or_from, not-true}
use Rattle.cw_strand.specs.declared.want.Want.TheVariants.{End}
use Rattle.cw_open.specs.Machine.{has_finished, finished_dead, is_running, is_dying, in_block}
use Rattle.cw_open.specs.Runs.{left_died}
use Rattle.cw_core.specs.declared.event.Event.{Event}
use Rattle.cw_core.specs.declared.event.Event.TheVariants as event
use Rattle.cw_core.specs.State.{CoreState, waits_for_left, spent}
use Rattle.cw_core.specs.Events.{fits, fits_now, is_stop, after_event}
use Rattle.cw_sim.specs.Moves.{does}
use Rattle.cw_sim.specs.Inside.{goes_back}
use Rattle.cw_sim.specs.InMemory.{Seen, law_of, IsSteady, Wants}
use Rattle.cw_sim.specs.declared.moves.Driver.{Driver}
use Rattle.cw_sim.proofs.Kept.Finishing.{goes, done}
use Rattle.cw_sim.proofs.Inside.Moves.{finish_inside}

-- a strand that goes back still does once one has finished
still_back : (k : CoreState) (x : ℕ) (dead : Bool) (y : ℕ) → goes_back (after_event k (event.Finish x dead)).machine y ≡ false → goes_back k.machine y ≡ false
still_back k x dead y e =
    let a = or_parts (is_dying k.machine y) (nat_eq x y && dead || finished_dead k.machine y) e in
    let b = or_parts (nat_eq x y && dead) (finished_dead k.machine y) a.1 in
    or_from (is_dying k.machine y) (finished_dead k.machine y) a.0 b.1

-- ## After the event

module _ (c : Driver) (z : Seen) (old : IsSteady c z) (x : ℕ) (dead : Bool) (fit : fits z.m.core (event.Finish x dead) ≡ true) (off : is_dying z.m.core.machine x ≡ false → Wants z x End → ⊥) where
  abbrev k : CoreState
  k = z.m.core

  abbrev e : Event
  e = event.Finish x dead

  -- what fits runs, and waits for no left strand
  fits_parts : (is_running k.machine x ≡ true) × (waits_for_left k x ≡ false)
  fits_parts =
      let a = and_parts (is_none k.halt && (is_none (spent k) || is_stop e)) (fits_now k e) fit in
      let b = and_parts (is_running k.machine x && not (waits_for_left k x) && not (in_block k.machine x)) (cond (is_dying k.machine x) dead (not dead || left_died k.machine x)) a.1 in
      let d = and_parts (is_running k.machine x && not (waits_for_left k x)) (not (in_block k.machine x)) b.0 in
      let f = and_parts (is_running k.machine x) (not (waits_for_left k x)) d.0 in
      (f.0, not-true (waits_for_left k x) f.1)

  -- it has finished
  pub finish_done : has_finished (after_event k e).machine x ≡ true
  finish_done = done k.machine.first k old.core x dead fits_parts.0 fits_parts.1 fit

  -- and it stands for the simulation of the definitions after the event
  pub finish_steady : (new : CoreState) → new ≡ after_event c.core e → IsSteady (record c { core = new }) (record z { m = does e z.m })
  finish_steady new is =
      let st = old.stands in
      let on = goes k.machine.first k old.core x dead fits_parts.0 fits_parts.1 fit in
      record {
        stands = record {
          job = st.job;
          core = is ∙ ap (λ j. after_event j e) st.core;
          is_core = on.core;
          workers = st.workers;
          bodies = λ y has. (let b = st.bodies y has in (b.0, b.1, record { program = b.2.program; at = λ alive. b.2.at (still_back k x dead y alive); like = b.2.like }));
          saved = λ b pending. st.saved b pending;
        };
        core = on;
        inside = finish_inside (law_of z) k.machine.first z.m old.core z.there old.inside x dead fits_parts.0 off;
      }
