-- A strand that is dying rolls its innermost block back, and its body stands at the begin of the block again.
use Rattle.std.proofs.Common.{◌≡◌, ℕ, List, subst, refl, ap, sym, ◌∙◌, true, cond, Option, Some, None}
use Rattle.std.specs.Prelude.{is_some, IsSome}
use Rattle.std.proofs.lemmas.Bool.{ne_eqb}
use Rattle.cw_strand.specs.Saving.{Kept}
use Rattle.cw_tree.specs.declared.node.BlockState.TheVariants.{Aborted}
use Rattle.cw_tree.specs.Series.{place}
use Rattle.cw_open.specs.Machine.{rolls_back}
use Rattle.cw_core.specs.declared.event.Event.TheVariants as event
use Rattle.cw_core.specs.State.{CoreState}
use Rattle.cw_core.specs.Events.{fits, after_event, next}
use Rattle.cw_core.specs.Laws.{IsCore}
use Rattle.cw_job.specs.declared.standing.Standing.{Standing}
use Rattle.cw_job.specs.Room.Strands.{IsOf, state_of}
use Rattle.cw_job.specs.Room.Saves.{IsSavedOf, MayRollBack}
use Rattle.cw_sim.specs.Moves.{does}
use Rattle.cw_sim.specs.Workers.{changed_at, with_strand}
use Rattle.cw_sim.specs.ThingsInMemory.{thing_at, Puts}
use Rattle.cw_sim.specs.Kept.{CoreGoesOn}
use Rattle.cw_sim.specs.InMemory.{Seen, Comes, IsBody, MayRoll, law_of}
use Rattle.cw_sim.specs.declared.moves.Driver.{Driver}
use Rattle.cw_sim.proofs.Kept.After.{conflicts_after}
use Rattle.cw_sim.proofs.Laws.Fits.{rolls, roll_fits}
use Rattle.cw_sim.proofs.InMemory.Acts.{fits_there}
use Rattle.cw_sim.proofs.InMemory.Answers.{some_inj, changed_stands}
use Rattle.cw_sim.proofs.InMemory.Ends.{place_there, block_kept}
use Rattle.cw_sim.proofs.InMemory.Left as left
use Rattle.cw_sim.proofs.InMemory.Things.{puts_twice}
use Rattle.cw_sim.proofs.Inside.Kept.{shut_left}
use Rattle.cw_sim.proofs.Inside.Moves.{may_go_back, roll_inside}
use Rattle.cw_sim.proofs.Inside.Quiet.{IsLeft}
use Rattle.cw_sim.proofs.Kept.Quiet.{roll_shut}

module _ (c : Driver) (x : ℕ) (z : Seen) (may : MayRoll c x z) where
  abbrev k : CoreState
  k = z.m.core

  abbrev now : CoreState
  now = after_event k (event.Roll x)

  abbrev p : ℕ
  p = place k.machine.tree x

  on : CoreGoesOn k.machine.first k
  on = may.step.steady.core

  rolled : rolls_back k.machine x ≡ true
  rolled = rolls k.machine.first k on x may.step.running may.step.ready may.dying may.within

  roll_fit : fits k (event.Roll x) ≡ true
  roll_fit = roll_fits k.machine.first k on x may.step.running may.step.ready may.dying may.within

  pub roll_fits_there : fits c.core (event.Roll x) ≡ true
  roll_fits_there = fits_there c x z may.step (event.Roll x) roll_fit

  its_body : (body : Standing) × (thing_at c.bodies x ≡ Some body) × IsBody z x body
  its_body = may.step.steady.stands.bodies x (left.running_body k.machine.first k on x may.step.running)

  -- the strand has a body
  pub roll_body : IsSome (thing_at c.bodies x)
  roll_body = ap is_some its_body.1

  module _ (b : ℕ) (at : b ≡ place c.core.machine.tree x) (kept : Kept) (was : Standing) (begin : thing_at c.saved b ≡ Some kept) (stood : thing_at c.bodies x ≡ Some was) where
    is_p : b ≡ p
    is_p = place_there c x z b may.step at

    is_saved : IsSavedOf z.job.program kept (z.m.saved p)
    is_saved =
        let s = block_kept c x z b may.step may.within at in
        let P : Kept → Type 0 = λ s. IsSavedOf z.job.program s (z.m.saved b) in
        let Q : ℕ → Type 0 = λ n. IsSavedOf z.job.program kept (z.m.saved n) in
        subst Q is_p (subst P (some_inj (sym s.1 ∙ begin)) s.2)

    -- which may go back
    pub roll_back : MayRollBack kept (state_of was)
    roll_back =
        let g = may_go_back (law_of z) k.machine.first z.m on z.there may.step.steady.inside x may.step.running may.step.ready may.dying may.within in
        let P : Standing → Type 0 = λ s. Rattle.cw_job.specs.Room.Saves.StandsAs (state_of s) (z.there x) in
        record {
          job = z.job;
          begin = z.m.saved p;
          is_saved = is_saved;
          there = z.there x;
          forks = g.forks;
          inner = g.inner;
          inside = g.inside;
          stays = g.stays;
          like = subst P (some_inj (sym its_body.1 ∙ stood)) its_body.2.like;
        }

    -- and once it has, the simulation stands for the move
    pub roll_comes : (rest : List (Option Kept)) (without bodies : List (Option Standing)) (new : CoreState) (body : Standing)
        → Puts c.saved b None rest → Puts c.bodies x None without → Puts without x (Some body) bodies → new ≡ after_event c.core (event.Roll x) → IsCore new.machine.first new
        → ((m : MayRollBack kept (state_of was)) → state_of body ≡ m.begin) → ((m : MayRollBack kept (state_of was)) → IsOf m.job.program body)
        → Comes (record c { core = new; bodies = bodies; saved = rest }) z (with_strand x (z.m.saved p) (does (event.Roll x) z.m))
    unfolding roll_back
    roll_comes rest without bodies new body gone taken put is core back of =
        let shut = roll_shut k.machine.first k on x may.step.running may.step.ready rolled in
        let is_left : IsLeft k.machine now.machine = shut_left k now (left.whole k.machine.first k on) p Aborted (next k) shut in
        let is_now : new ≡ now = is ∙ ap (λ s. after_event s (event.Roll x)) may.step.steady.stands.core in
        let P : CoreState → Type 0 = λ s. IsCore s.machine.first s in (
          changed_at x (z.m.saved p) z.there,
          (
            changed_stands c new x z now rest z.m.saved bodies body (z.m.saved p) may.step.steady.stands is_now (subst P is_now core)
                (λ y ne. left.body_was k now is_left y)
                (λ y ne has. left.back_was k.machine now.machine is_left y (λ e. sym (left.dying_roll k.machine.first k on x may.step.running may.step.ready roll_fit rolled y (left.body_stands k.machine.first k on y has) ne) ∙ e))
                (λ n e.
                let few = left.shut_fewer k.machine.first k on (event.Roll x) roll_fit p Aborted refl shut (conflicts_after k (event.Roll x) refl refl) n e in
                let old = may.step.steady.stands.saved n few.1 in
                (old.0, gone n ∙ ap (λ o. cond o None (thing_at c.saved n)) (ne_eqb n b (λ q. few.0 (q ∙ is_p))) ∙ old.1, old.2))
                (puts_twice c.bodies c.bodies without bodies x (Some body) (λ m. refl) taken put) (of roll_back) (back roll_back),
            roll_inside (law_of z) k.machine.first z.m on z.there may.step.steady.inside x may.step.running may.step.ready roll_fit rolled may.within,
          ),
        )
