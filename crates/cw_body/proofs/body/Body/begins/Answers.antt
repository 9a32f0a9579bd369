use Rattle.std.proofs.Common.{◌≡◌, ◌∙◌, List, ◌∷◌, refl, ap, sym, subst}
use Rattle.cw_code.specs.declared.program.Program.{Program}
use Rattle.cw_strand.specs.declared.want.Want.TheVariants as want
use Rattle.cw_strand.specs.declared.want.Given.TheVariants.{Nothing}
use Rattle.cw_job.specs.declared.runner.Runner.{Runner}
use Rattle.cw_job.specs.Jobs.{bare_job}
use Rattle.cw_job.specs.Room.Strands.{StrandState, strands_of_job}
use Rattle.cw_job.specs.Room.Runners.{IsRunner, place_of, state_in}
use Rattle.cw_job.specs.Room.Saves.{IsSavedOf}
use Rattle.cw_body.specs.declared.begin.Begin.{Begin}
use Rattle.cw_body.specs.declared.stage.Stage.TheVariants.{Goes}
use Rattle.cw_body.specs.Bodies.{InBlocks, strands_of_program, want_of}
use Rattle.cw_body.specs.InMemory.{AreKept, StandsSo, in_blocks}
use Rattle.cw_body.proofs.InMemory.Calls.{begin_kept, begun_so}
use Rattle.cw_body.proofs.body.Body.begins.Goals as goal

pub invariant_of-self-2 : goal.invariant_of-self-2
invariant_of-self-2 c =
    let x = c.self.inside in
    let p = x.program.value in
    let b : Begin = record { saved = c.in_ok-saved.saved; level = x.level; at = c.of-2.result } in
    let going : x.stage.value ≡ Goes = ap (λ (v : InBlocks). v.stage) c.self.view_is ∙ c.requires.goes in
    let same : c.args.program.now ≡ p = c.requires.program ∙ sym (ap (λ (v : InBlocks). v.program) c.self.view_is) in
    let Q : InBlocks → Type 0 = λ v. want_of v ≡ want.Begin in
    let W : Program → Type 0 = λ q. (strands_of_job (bare_job q)).want (state_in q x.runner) ≡ want.Begin in
    let R : Program → Type 0 = λ q. IsSavedOf q c.in_ok-saved.saved (state_in q x.runner) in
    let K : List Begin → Type 0 = λ bs. AreKept p bs in
    let S : List Begin → Type 0 = λ bs. StandsSo p c.of-3.result.value x.level c.answer.new.self bs in
    let Ran : Program → Type 0 = λ q. state_in q c.save.new.self ≡ state_in q x.runner in
    let At : Program → Type 0 = λ q. place_of c.save.new.self ≡ state_in q c.save.new.self in
    let P : Program → Type 0 = λ q. IsRunner q c.answer.new.self in
    let There : Program → Type 0 = λ q. place_of c.answer.new.self ≡ state_in q c.answer.new.self in
    let On : Program → Type 0 = λ q. state_in q c.answer.new.self ≡ (strands_of_program p).answer (state_in q c.save.new.self) Nothing in
    let ran : state_in p c.save.new.self ≡ state_in p x.runner = subst Ran same c.in_ok-saved.ensures.same in
    let snap : place_of c.of-2.result.value ≡ state_in p x.runner = ap (λ (r : Runner). place_of r) c.of-2.ensures ∙ (subst At same c.in_ok-saved.ensures.place ∙ ran) in
    let on : state_in p c.answer.new.self ≡ (strands_of_program p).answer (state_in p x.runner) Nothing =
    subst On same (c.in_ok-answer.ensures.answer (bare_job p) (sym same)) ∙ ap (λ (a : StrandState). (strands_of_program p).answer a Nothing) ran in
    let w : want_of (in_blocks x) ≡ want.Begin = subst Q (sym c.self.view_is) c.requires.begin in
    let saved : R p = subst R same (c.in_ok-saved.ensures.saved (subst W (sym same) w)) in
    let pushed : c.push.new.self ≡ b ∷ x.begins = c.in_ok-push.ensures.ok in
    record {
      kept = subst K (sym pushed) (begin_kept p x.stage.value x.level x.runner b x.begins going w saved refl snap c.self.invariant.stands, c.self.invariant.kept);
      stands = subst S (sym pushed) (begun_so p x.stage.value c.of-3.result.value x.level x.runner c.answer.new.self going c.of-3.ensures (subst P same c.in_ok-answer.ensures.runner) (subst There same c.in_ok-answer.ensures.place)
          b x.begins w refl snap on c.self.invariant.stands);
    }
