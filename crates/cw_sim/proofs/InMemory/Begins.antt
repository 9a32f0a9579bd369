-- A block begins, and what its strand needs to go back there is kept.
use Rattle.std.proofs.Common.{◌≡◌, ℕ, List, length, subst, refl, ap, sym, ◌∙◌, arith, true, cond, Option, Some, inl, inr}
use Rattle.std.specs.Prelude.{is_some, IsSome}
use Rattle.std.proofs.lemmas.Bool.{eq-eqb, ne_eqb}
use Rattle.cw_code.specs.declared.program.Program.{Program}
use Rattle.cw_strand.specs.declared.want.Given.TheVariants.{Nothing}
use Rattle.cw_strand.specs.declared.want.Want.TheVariants.{Begin}
use Rattle.cw_strand.specs.Saving.{Kept}
use Rattle.cw_tree.specs.declared.node.Kind.TheVariants.{Block}
use Rattle.cw_tree.specs.Nodes.{fresh_node}
use Rattle.cw_tree.specs.Series.{place}
use Rattle.cw_core.specs.declared.event.Event.TheVariants as event
use Rattle.cw_core.specs.State.{CoreState}
use Rattle.cw_core.specs.Events.{fits, after_event, next}
use Rattle.cw_core.specs.Laws.{IsCore}
use Rattle.cw_job.specs.declared.standing.Standing.{Standing}
use Rattle.cw_job.specs.Jobs.{bare_job}
use Rattle.cw_job.specs.Room.Strands.{StrandState, IsOf, state_of, strands_of_job}
use Rattle.cw_job.specs.Room.Saves.{IsSavedOf}
use Rattle.cw_job.proofs.Room.Wants.{same_want}
use Rattle.cw_sim.specs.Moves.{does, begin_block}
use Rattle.cw_sim.specs.Workers.{tree, changed_at}
use Rattle.cw_sim.specs.ThingsInMemory.{thing_at, Puts}
use Rattle.cw_sim.specs.Kept.{CoreGoesOn}
use Rattle.cw_sim.specs.InMemory.{Seen, StandsFor, Comes, IsBody, MayDo, MayAnswer, law_of, answered}
use Rattle.cw_sim.specs.declared.moves.Driver.{Driver}
use Rattle.cw_sim.proofs.Laws.Fits.{begin_fits}
use Rattle.cw_sim.proofs.InMemory.Acts.{fits_there, left_may}
use Rattle.cw_sim.proofs.InMemory.Answers.{some_inj, body_is}
use Rattle.cw_sim.proofs.InMemory.Left as left
use Rattle.cw_sim.proofs.Inside.Kept.{more_left, pending_more, changed_here, changed_other}
use Rattle.cw_sim.proofs.Inside.Moves.{begin_inside}
use Rattle.cw_sim.proofs.Kept.Quiet.{begin_more}

module _ (c : Driver) (x : ℕ) (z : Seen) (may : MayDo c x Begin z) where
  abbrev k : CoreState
  k = z.m.core

  abbrev now : CoreState
  now = after_event k (event.Begin x)

  on : CoreGoesOn k.machine.first k
  on = may.step.steady.core

  begin_fit : fits k (event.Begin x) ≡ true
  begin_fit = begin_fits k.machine.first k on x may.step.running may.step.ready may.alive

  pub begin_fits_there : fits c.core (event.Begin x) ≡ true
  begin_fits_there = fits_there c x z may.step (event.Begin x) begin_fit

  its_body : (body : Standing) × (thing_at c.bodies x ≡ Some body) × IsBody z x body
  its_body = may.step.steady.stands.bodies x (left.running_body k.machine.first k on x may.step.running)

  -- the strand has a body
  pub begin_body : IsSome (thing_at c.bodies x)
  begin_body = ap is_some its_body.1

  -- where it is after the begin
  abbrev pub begun : Seen
  begun = record z { m = record (does (event.Begin x) z.m) { saved = changed_at (length (tree z.m)) (z.m.at x) z.m.saved } }

  module _ (body : Standing) (at : thing_at c.bodies x ≡ Some body) (kept : Kept) (saves : (program : Program) → IsOf program body → (strands_of_job (bare_job program)).want (state_of body) ≡ Begin → IsSavedOf program kept (state_of body)) where
    is_itself : state_of body ≡ z.m.at x
    is_itself = body_is c z may.step.steady.stands x body (left.running_body k.machine.first k on x may.step.running) (left.running_back k.machine x may.step.running may.alive) at

    is_saved : IsSavedOf z.job.program kept (z.m.at x)
    is_saved =
        let program = z.job.program in
        let P : Standing → Type 0 = λ s. IsOf program s in
        let Q : StrandState → Type 0 = λ a. IsSavedOf program kept a in
        subst Q is_itself (saves program (subst P (some_inj (sym its_body.1 ∙ at)) its_body.2.program) (same_want (bare_job program) z.job (state_of body) ∙ ap (λ a. (law_of z).want a) is_itself ∙ may.wanted))

    -- the strand may be answered then
    pub begin_may : (b : ℕ) (all : List (Option Kept)) (new : CoreState) → b ≡ length c.core.machine.tree → Puts c.saved b (Some kept) all → new ≡ after_event c.core (event.Begin x) → IsCore new.machine.first new
        → MayAnswer (record c { core = new; saved = all }) x begun
    begin_may b all new next_is puts is core =
        let node = fresh_node (place k.machine.tree x) Block (next k) in
        let more = begin_more k.machine.first k on x may.step.running may.step.ready in
        let fresh : b ≡ length k.machine.tree = next_is ∙ ap (λ s. length s.machine.tree) may.step.steady.stands.core in
        let after_saved = changed_at (length k.machine.tree) (z.m.at x) z.m.saved in
        left_may c x z may.step new (event.Begin x) is core all after_saved may.alive (more_left k now (left.whole k.machine.first k on) node more)
        (left.dying_more k.machine.first k on (event.Begin x) begin_fit node more refl)
        (λ n e. elim (pending_more k now node more n e) [
          | inl w ↦
              (let old = may.step.steady.stands.saved n w.1 in
              let other : n ≡ length k.machine.tree → ⊥ = λ q. (let low = w.0 in omega (arith, low, q)) in
              let P : StrandState → Type 0 = λ a. IsSavedOf z.job.program old.0 a in
              (old.0, puts n ∙ ap (λ o. cond o (Some kept) (thing_at c.saved n)) (ne_eqb n b (λ q. other (q ∙ fresh))) ∙ old.1, subst P (sym (changed_other (length k.machine.tree) (z.m.at x) z.m.saved n other)) old.2))
          | inr w ↦
              (let P : StrandState → Type 0 = λ a. IsSavedOf z.job.program kept a in (
                kept,
                puts n ∙ ap (λ o. cond o (Some kept) (thing_at c.saved n)) (eq-eqb n b (w.0 ∙ sym fresh)),
                subst P (sym (ap after_saved w.0 ∙ changed_here (length k.machine.tree) (z.m.at x) z.m.saved)) is_saved,
              ))
        ])

  -- and it stands for the move once it is
  pub begin_comes : (d : Driver) → StandsFor d (answered x Nothing begun) → Comes d z (begin_block (law_of z) x z.m)
  begin_comes d stands = (
    changed_at x ((law_of z).answer (z.m.at x) Nothing) z.there,
    (
      stands,
      begin_inside (law_of z) k.machine.first z.m on z.there may.step.steady.inside x may.step.running may.step.ready begin_fit may.alive may.wanted,
    ),
  )
