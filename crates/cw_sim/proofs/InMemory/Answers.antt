-- A strand is answered: its body goes on, and all else is as it was.
use Rattle.std.proofs.Common.{◌≡◌, ◌≢◌, ℕ, List, subst, refl, ap, sym, ◌∙◌, true, false, cond, Option, Some, None, inl, inr}
use Rattle.std.proofs.lemmas.Bool.{cases_eq, eq-eqb, ne_eqb}
use Rattle.cw_strand.specs.declared.want.Given.{Given}
use Rattle.cw_job.specs.declared.standing.Standing.{Standing}
use Rattle.cw_job.specs.Jobs.{Job}
use Rattle.cw_code.specs.declared.program.Program.{Program}
use Rattle.cw_job.specs.Room.Strands.{StrandState, IsOf, state_of, strands_of_job}
use Rattle.cw_job.specs.Room.Saves.{IsSavedOf, StandsAs}
use Rattle.cw_strand.specs.Saving.{Kept}
use Rattle.cw_tree.specs.Nodes.{is_pending}
use Rattle.cw_core.specs.Laws.{IsCore}
use Rattle.cw_core.specs.State.{CoreState}
use Rattle.cw_sim.specs.Workers.{changed_at, with_strand}
use Rattle.cw_sim.specs.ThingsInMemory.{thing_at, Puts}
use Rattle.cw_sim.specs.InMemory.{Seen, StandsFor, law_of, has_body, MayAnswer, answered}
use Rattle.cw_sim.proofs.InMemory.Things.{puts_twice}
use Rattle.cw_sim.specs.Inside.{goes_back}
use Rattle.cw_sim.proofs.Inside.Kept.{changed_here, changed_other}
use Rattle.cw_sim.specs.declared.moves.Driver.{Driver}

-- a strand stands where it stands
pub stands_as : (now there : StrandState) → now ≡ there → StandsAs now there
unfolding StandsAs
stands_as now there e =
    let P : StrandState → Type 0 = λ s. StandsAs now s in
    let itself : StandsAs now now = refl in
    subst P e itself

-- The core moves, and strand x has this body now, which stands here, and is the strand itself. Of other strands none gets a body, those that went
-- back still do, and of each pending block what its strand needs is kept.
pub changed_stands : (c : Driver) (k : CoreState) (x : ℕ) (z : Seen) (new : CoreState) (kept : List (Option Kept)) (saved : ℕ → StrandState) (bodies : List (Option Standing)) (body : Standing) (a : StrandState)
    → StandsFor c z → k ≡ new → IsCore new.machine.first new
    → ((y : ℕ) → y ≢ x → has_body new y ≡ true → has_body z.m.core y ≡ true)
    → ((y : ℕ) → y ≢ x → has_body z.m.core y ≡ true → goes_back new.machine y ≡ false → goes_back z.m.core.machine y ≡ false)
    → ((b : ℕ) → is_pending new.machine.tree b ≡ true → (s : Kept) × (thing_at kept b ≡ Some s) × IsSavedOf z.job.program s (saved b))
    → Puts c.bodies x (Some body) bodies → IsOf z.job.program body → state_of body ≡ a
    → StandsFor (record c { core = k; bodies = bodies; saved = kept }) (record z { m = with_strand x a (record z.m { core = new; saved = saved }); there = changed_at x a z.there })
changed_stands c k x z new kept saved bodies body a old core is_core was back pending puts of is = record {
  job = old.job;
  core = core;
  is_core = is_core;
  workers = old.workers;
  bodies = λ y has. elim (cases_eq y x) [
    | inl e ↦ (
      body,
      puts y ∙ ap (λ b. cond b (Some body) (thing_at c.bodies y)) (eq-eqb y x e),
      record {
        program = of;
        at = λ alive. is ∙ here y e z.m.at;
        like = like y e;
      },
    )
    | inr ne ↦
        (let b = old.bodies y (was y ne has) in (
          b.0,
          puts y ∙ ap (λ o. cond o (Some body) (thing_at c.bodies y)) (ne_eqb y x ne) ∙ b.1,
          record {
            program = b.2.program;
            at = λ alive. b.2.at (back y ne (was y ne has) alive) ∙ sym (changed_other x a z.m.at y ne);
            like = (let P : StrandState → Type 0 = λ s. StandsAs (state_of b.0) s in subst P (sym (changed_other x a z.there y ne)) b.2.like);
          },
        ))
  ];
  saved = pending;
} where
  here : (y : ℕ) → y ≡ x → (f : ℕ → StrandState) → a ≡ changed_at x a f y
  here y e f = sym (ap (changed_at x a f) e ∙ changed_here x a f)

  like : (y : ℕ) → y ≡ x → StandsAs (state_of body) (changed_at x a z.there y)
  like y e = stands_as (state_of body) (changed_at x a z.there y) (is ∙ here y e z.there)

-- strand x alone has another body
pub puts_body : (c : Driver) (x : ℕ) (z : Seen) (bodies : List (Option Standing)) (body : Standing) (a : StrandState) → StandsFor c z → Puts c.bodies x (Some body) bodies → IsOf z.job.program body → state_of body ≡ a
    → StandsFor (record c { bodies = bodies }) (record z { m = with_strand x a z.m; there = changed_at x a z.there })
puts_body c x z bodies body a old =
    changed_stands c c.core x z z.m.core c.saved z.m.saved bodies body a old old.core old.is_core (λ y ne h. h) (λ y ne h g. g) old.saved

pub some_inj : {X : Type 0} {a b : X} → Some a ≡ Some b → a ≡ b
some_inj e = cc

module _ (c : Driver) (z : Seen) (old : StandsFor c z) where
  -- the program that is run
  pub program_is : c.task.program.now ≡ z.job.program
  program_is = ap (λ j. j.program) old.job

  -- the body of a strand that does not go back is the strand itself
  pub body_is : (x : ℕ) (body : Standing) → has_body z.m.core x ≡ true → goes_back z.m.core.machine x ≡ false → thing_at c.bodies x ≡ Some body → state_of body ≡ z.m.at x
  body_is x body has alive at =
      let b = old.bodies x has in
      ap state_of (some_inj (sym at ∙ b.1)) ∙ b.2.at alive

-- the body of strand x was answered, and put back
pub answered_stands : (c : Driver) (x : ℕ) (given : Given) (z : Seen) (without bodies : List (Option Standing)) (was body : Standing) → MayAnswer c x z
    → thing_at c.bodies x ≡ Some was → Puts c.bodies x None without → Puts without x (Some body) bodies → IsOf c.task.program.now body
    → ((job : Job) → job.program ≡ c.task.program.now → state_of body ≡ (strands_of_job job).answer (state_of was) given)
    → StandsFor (record c { bodies = bodies }) (answered x given z)
answered_stands c x given z without bodies was body may at taken put of answers =
    let program = program_is c z may.stands in
    let P : Program → Type 0 = λ p. IsOf p body in
    puts_body c x z bodies body ((law_of z).answer (z.m.at x) given) may.stands (puts_twice c.bodies c.bodies without bodies x (Some body) (λ m. refl) taken put) (subst P program of)
    (answers z.job (sym program) ∙ ap (λ a. (law_of z).answer a given) (body_is c z may.stands x was may.body may.alive at))
