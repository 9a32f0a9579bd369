-- The innermost block of a strand ends, and what was kept of its begin is given up.
use Rattle.std.proofs.Common.{◌≡◌, ℕ, List, subst, refl, ap, sym, ◌∙◌, true, cond, Option, Some, None}
use Rattle.std.specs.Prelude.{is_some, IsSome}
use Rattle.std.proofs.lemmas.Bool.{ne_eqb}
use Rattle.cw_strand.specs.declared.want.Given.TheVariants.{Nothing}
use Rattle.cw_strand.specs.declared.want.Want.{Want}
use Rattle.cw_strand.specs.declared.want.Want.TheVariants.{End}
use Rattle.cw_strand.specs.Saving.{Kept}
use Rattle.cw_strand.specs.Strands.{IsAnswer}
use Rattle.cw_tree.specs.declared.node.BlockState.TheVariants.{Committed}
use Rattle.cw_tree.specs.Nodes.{is_pending}
use Rattle.cw_tree.specs.Series.{place}
use Rattle.cw_open.specs.Machine.{in_block}
use Rattle.cw_core.specs.declared.event.Event.TheVariants as event
use Rattle.cw_core.specs.State.{CoreState}
use Rattle.cw_core.specs.Events.{fits, after_event, next}
use Rattle.cw_core.specs.Laws.{IsCore}
use Rattle.cw_job.specs.Room.Saves.{IsSavedOf}
use Rattle.cw_sim.specs.Moves.{does, answer_want}
use Rattle.cw_sim.specs.Workers.{tree, changed_at}
use Rattle.cw_sim.specs.ThingsInMemory.{thing_at, Puts}
use Rattle.cw_sim.specs.Kept.{CoreGoesOn}
use Rattle.cw_sim.specs.InMemory.{Seen, StandsFor, Comes, MayStep, MayDo, MayAnswer, law_of, answered}
use Rattle.cw_sim.specs.declared.moves.Driver.{Driver}
use Rattle.cw_sim.proofs.Laws.Fits.{free, commit_fits}
use Rattle.cw_sim.proofs.InMemory.Acts.{fits_there, left_may}
use Rattle.cw_sim.proofs.InMemory.Left as left
use Rattle.cw_sim.proofs.Inside.Kept.{shut_left}
use Rattle.cw_sim.proofs.Inside.Moves.{commit_inside}
use Rattle.cw_sim.proofs.Kept.Quiet.{commit_shut}

-- what its block is in memory
pub place_there : (c : Driver) (x : ℕ) (z : Seen) (b : ℕ) → MayStep c x z → b ≡ place c.core.machine.tree x → b ≡ place (tree z.m) x
place_there c x z b step is = is ∙ ap (λ k. place k.machine.tree x) step.steady.stands.core

-- where it stands in one, what is needed to go back to the begin is kept
pub block_kept : (c : Driver) (x : ℕ) (z : Seen) (b : ℕ) → MayStep c x z → in_block z.m.core.machine x ≡ true → b ≡ place c.core.machine.tree x → (s : Kept) × (thing_at c.saved b ≡ Some s) × IsSavedOf z.job.program s (z.m.saved b)
block_kept c x z b step within is =
    step.steady.stands.saved b
    (ap (is_pending (tree z.m)) (place_there c x z b step is) ∙ left.within_pending z.m.core.machine.first z.m.core step.steady.core x step.running within)

pub block_some : (c : Driver) (x : ℕ) (z : Seen) (b : ℕ) → MayStep c x z → in_block z.m.core.machine x ≡ true → b ≡ place c.core.machine.tree x → IsSome (thing_at c.saved b)
block_some c x z b step within is = ap is_some (block_kept c x z b step within is).1

module _ (c : Driver) (x : ℕ) (z : Seen) (may : MayDo c x End z) where
  abbrev k : CoreState
  k = z.m.core

  on : CoreGoesOn k.machine.first k
  on = may.step.steady.core

  pub end_within : in_block k.machine x ≡ true
  end_within = may.step.wants.ends x (free k.machine.first k on x may.step.running may.step.ready may.alive) may.wanted

  end_fits : fits k (event.Commit x) ≡ true
  end_fits = commit_fits k.machine.first k on x may.step.running may.step.ready may.alive end_within

  pub end_fits_there : fits c.core (event.Commit x) ≡ true
  end_fits_there = fits_there c x z may.step (event.Commit x) end_fits

  -- the strand may be answered then
  pub end_may : (b : ℕ) (kept : List (Option Kept)) (new : CoreState) → b ≡ place c.core.machine.tree x → Puts c.saved b None kept → new ≡ after_event c.core (event.Commit x) → IsCore new.machine.first new
      → MayAnswer (record c { core = new; saved = kept }) x (record z { m = does (event.Commit x) z.m })
  end_may b kept new at puts is core =
      let shut = commit_shut k.machine.first k on x may.step.running may.step.ready in
      left_may c x z may.step new (event.Commit x) is core kept z.m.saved may.alive
      (shut_left k (after_event k (event.Commit x)) (left.whole k.machine.first k on) (place k.machine.tree x) Committed (next k) shut)
      (left.dying_commit k.machine.first k on x may.step.running may.step.ready end_fits may.alive end_within)
      (λ n e.
      let few = left.shut_fewer k.machine.first k on (event.Commit x) end_fits (place k.machine.tree x) Committed refl shut refl n e in
      let old = may.step.steady.stands.saved n few.1 in
      (old.0, puts n ∙ ap (λ o. cond o None (thing_at c.saved n)) (ne_eqb n b (λ q. few.0 (q ∙ place_there c x z b may.step at))) ∙ old.1, old.2))

  -- and it stands for the move once it is
  pub end_comes : (d : Driver) → StandsFor d (answered x Nothing (record z { m = does (event.Commit x) z.m })) → Comes d z (answer_want (law_of z) x Nothing (does (event.Commit x) z.m))
  end_comes d stands =
      let P : Want → Type 0 = λ w. IsAnswer (law_of z).elements w Nothing in (
        changed_at x ((law_of z).answer (z.m.at x) Nothing) z.there,
        (
          stands,
          commit_inside (law_of z) k.machine.first z.m on z.there may.step.steady.inside x may.step.running may.step.ready end_fits may.alive end_within may.wanted (subst P (sym may.wanted) tt),
        ),
      )
