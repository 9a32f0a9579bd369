-- A strand does what it wants: its step leaves all strands and forks, and it is answered.
use Rattle.std.proofs.Common.{◌≡◌, ℕ, List, length, map, subst, refl, ap, sym, ◌∙◌, true, false, Option, Some}
use Rattle.std.specs.Prelude.{ℤ}
use Rattle.cw_code.specs.declared.Back.{Back as PutBack}
use Rattle.cw_strand.specs.declared.want.Given.TheVariants.{Nothing, Back}
use Rattle.cw_strand.specs.declared.want.Want.{Want}
use Rattle.cw_strand.specs.declared.want.Want.TheVariants as want
use Rattle.cw_strand.specs.Saving.{Kept}
use Rattle.cw_strand.specs.Strands.{AreElements, IsAnswer}
use Rattle.cw_tree.specs.declared.node.Kind.TheVariants.{Out, Cancel}
use Rattle.cw_tree.specs.Nodes.{is_pending, fresh_node}
use Rattle.cw_tree.specs.Series.{place}
use Rattle.cw_tree.specs.AccessStacks.{access_at}
use Rattle.cw_tree.proofs.Cancels.{names_back}
use Rattle.cw_open.specs.Machine.{in_block, is_dying, live}
use Rattle.cw_open.specs.Steps.{puts_back}
use Rattle.cw_core.specs.declared.event.Event.{Event}
use Rattle.cw_core.specs.declared.event.Event.TheVariants as event
use Rattle.cw_core.specs.declared.event.Reply.{Reply}
use Rattle.cw_core.specs.declared.event.Reply.TheVariants as reply
use Rattle.cw_core.specs.State.{CoreState}
use Rattle.cw_core.specs.Events.{fits, after_event, reply_to, next}
use Rattle.cw_core.specs.Laws.{IsCore}
use Rattle.cw_job.specs.Room.Strands.{StrandState}
use Rattle.cw_job.specs.Room.Saves.{IsSavedOf}
use Rattle.cw_sim.specs.Kept.{CoreGoesOn}
use Rattle.cw_sim.specs.Moves.{does, answer_want, give_up}
use Rattle.cw_sim.specs.Workers.{tree, changed_at}
use Rattle.cw_sim.specs.ThingsInMemory.{thing_at}
use Rattle.cw_sim.specs.InMemory.{Seen, StandsFor, Comes, MayStep, MayDo, MayAnswer, law_of, answered}
use Rattle.cw_sim.specs.declared.moves.Driver.{Driver}
use Rattle.cw_sim.proofs.Laws.Fits.{cancel_fits, free, out_fits}
use Rattle.cw_sim.proofs.InMemory.Left as left
use Rattle.cw_sim.proofs.InMemory.Still.{moved_stands}
use Rattle.cw_sim.proofs.Inside.Kept.{more_left}
use Rattle.cw_sim.proofs.Inside.Moves.{cancel_inside, out_inside}
use Rattle.cw_sim.proofs.Inside.Quiet.{IsLeft}
use Rattle.cw_sim.proofs.Kept.Quiet.{cancel_more, out_more}
use Rattle.cw_sim.proofs.Kept.Elements.{elements_named}

-- ## A strand that makes a step

module _ (c : Driver) (x : ℕ) (z : Seen) (step : MayStep c x z) where
  abbrev pub seen : CoreState
  seen = z.m.core

  abbrev pub first : List ℤ
  first = seen.machine.first

  pub on : CoreGoesOn first seen
  on = step.steady.core

  -- what fits what it stands for fits in memory
  pub fits_there : (e : Event) → fits seen e ≡ true → fits c.core e ≡ true
  fits_there e fit = ap (λ s. fits s e) step.steady.stands.core ∙ fit

  module _ (k : CoreState) (e : Event) (is : k ≡ after_event c.core e) (core : IsCore k.machine.first k) where
    abbrev now : CoreState
    now = after_event seen e

    pub is_after : k ≡ now
    is_after = is ∙ ap (λ s. after_event s e) step.steady.stands.core

    -- after a step that leaves all strands and forks, and those that are dying, it may be answered
    pub left_may : (kept : List (Option Kept)) (saved : ℕ → StrandState) → is_dying seen.machine x ≡ false → IsLeft seen.machine now.machine → ((y : ℕ) → is_dying now.machine y ≡ is_dying seen.machine y)
        → ((b : ℕ) → is_pending now.machine.tree b ≡ true → (s : Kept) × (thing_at kept b ≡ Some s) × IsSavedOf z.job.program s (saved b))
        → MayAnswer (record c { core = k; saved = kept }) x (record z { m = record z.m { core = now; saved = saved } })
    left_may kept saved alive is_left dying pending = record {
      stands = moved_stands c k z now step.steady.stands is_after core (left.body_was seen now is_left) (λ y. left.back_was seen.machine now.machine is_left y (λ e. sym (dying y) ∙ e)) kept saved pending;
      body = left.body_stays seen now is_left x (left.running_body first seen on x step.running);
      alive = left.back_stays seen.machine now.machine is_left x (dying x) (left.running_back seen.machine x step.running alive);
    }

-- ## A block that is given up

same_list : {x y : List PutBack} → reply.Back x ≡ reply.Back y → x ≡ y
same_list e = cc

module _ (c : Driver) (x : ℕ) (z : Seen) (may : MayDo c x want.Cancel z) where
  abbrev back : List PutBack
  back = puts_back z.m.core.machine x (next z.m.core)

  within : in_block z.m.core.machine x ≡ true
  within = may.step.wants.cancels x (free z.m.core.machine.first z.m.core may.step.steady.core x may.step.running may.step.ready may.alive) may.wanted

  gives_up_fits : fits z.m.core (event.Cancel x) ≡ true
  gives_up_fits = cancel_fits z.m.core.machine.first z.m.core may.step.steady.core x may.step.running may.step.ready may.alive within

  pub cancel_fits_there : fits c.core (event.Cancel x) ≡ true
  cancel_fits_there = fits_there c x z may.step (event.Cancel x) gives_up_fits

  -- the strand may be answered then
  pub cancel_may : (k : CoreState) → k ≡ after_event c.core (event.Cancel x) → IsCore k.machine.first k → MayAnswer (record c { core = k }) x (record z { m = does (event.Cancel x) z.m })
  cancel_may k is core =
      let on = may.step.steady.core in
      let node = fresh_node (place (tree z.m) x) (Cancel back) (next z.m.core) in
      let more = cancel_more z.m.core.machine.first z.m.core on x may.step.running may.step.ready in
      left_may c x z may.step k (event.Cancel x) is core c.saved z.m.saved may.alive
      (more_left z.m.core (after_event z.m.core (event.Cancel x)) (left.whole z.m.core.machine.first z.m.core on) node more)
      (left.dying_more z.m.core.machine.first z.m.core on (event.Cancel x) gives_up_fits node more refl)
      (λ b e. may.step.steady.stands.saved b (left.plain_more z.m.core.machine.first z.m.core on (event.Cancel x) gives_up_fits node more refl b e))

  -- the list names elements, so it is an answer
  named : AreElements (law_of z).elements back
  named =
      elements_named (length z.m.core.machine.first) (law_of z).elements may.step.wants.there back
      (names_back (tree z.m) z.m.core.machine.first (λ c. map (access_at (tree z.m)) (live z.m.core.machine c)) (place (tree z.m) x) (next z.m.core))

  -- the core replies what is put back
  told : (r : Reply) (list : List PutBack) → r ≡ reply.Back list → r ≡ reply_to c.core (event.Cancel x) → list ≡ back
  told r list is replied = same_list (sym is ∙ (replied ∙ ap (λ s. reply_to s (event.Cancel x)) may.step.steady.stands.core))

  -- and it stands for the move once it is answered
  pub cancel_comes : (r : Reply) (list : List PutBack) → r ≡ reply.Back list → r ≡ reply_to c.core (event.Cancel x) → (d : Driver)
      → StandsFor d (answered x (Back list) (record z { m = does (event.Cancel x) z.m })) → Comes d z (give_up (law_of z) x z.m)
  cancel_comes r list is replied d stands =
      let P : Want → Type 0 = λ w. IsAnswer (law_of z).elements w (Back back) in
      let Q : List PutBack → Type 0 = λ l. StandsFor d (answered x (Back l) (record z { m = does (event.Cancel x) z.m })) in
      let wanted = may.wanted in (
        changed_at x ((law_of z).answer (z.m.at x) (Back back)) z.there,
        (
          subst Q (told r list is replied) stands,
          cancel_inside (law_of z) z.m.core.machine.first z.m may.step.steady.core z.there may.step.steady.inside x may.step.running may.step.ready gives_up_fits may.alive (subst P (sym wanted) named)
              (λ e. cc (e, wanted)),
        ),
      )

-- ## An output

module _ (c : Driver) (x : ℕ) (v : ℤ) (z : Seen) (may : MayDo c x (want.Out v) z) where
  -- the strand may be answered then
  pub out_may : (k : CoreState) → k ≡ after_event c.core (event.Out x v) → IsCore k.machine.first k → MayAnswer (record c { core = k }) x (record z { m = does (event.Out x v) z.m })
  out_may k is core =
      let on = may.step.steady.core in
      let node = fresh_node (place (tree z.m) x) (Out v) (next z.m.core) in
      let more = out_more z.m.core.machine.first z.m.core on x may.step.running may.step.ready v in
      let fit = out_fits z.m.core.machine.first z.m.core on x may.step.running may.step.ready v may.alive in
      left_may c x z may.step k (event.Out x v) is core c.saved z.m.saved may.alive (more_left z.m.core (after_event z.m.core (event.Out x v)) (left.whole z.m.core.machine.first z.m.core on) node more)
      (left.dying_more z.m.core.machine.first z.m.core on (event.Out x v) fit node more refl)
      (λ b e. may.step.steady.stands.saved b (left.plain_more z.m.core.machine.first z.m.core on (event.Out x v) fit node more refl b e))

  -- and it stands for the move once it is
  pub out_comes : (d : Driver) → StandsFor d (answered x Nothing (record z { m = does (event.Out x v) z.m })) → Comes d z (answer_want (law_of z) x Nothing (does (event.Out x v) z.m))
  out_comes d stands =
      let on = may.step.steady.core in
      let P : Want → Type 0 = λ w. IsAnswer (law_of z).elements w Nothing in
      let wanted = may.wanted in (
        changed_at x ((law_of z).answer (z.m.at x) Nothing) z.there,
        (
          stands,
          out_inside (law_of z) z.m.core.machine.first z.m on z.there may.step.steady.inside x may.step.running may.step.ready v
              (out_fits z.m.core.machine.first z.m.core on x may.step.running may.step.ready v may.alive) may.alive (subst P (sym wanted) tt) (λ e. cc (e, wanted)),
        ),
      )
