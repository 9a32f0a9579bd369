use Rattle.std.proofs.Common.{◌≡◌, ◌∙◌, ap, sym, subst}
use Rattle.cw_code.specs.declared.program.Program.{Program}
use Rattle.cw_job.specs.Jobs.{bare_job}
use Rattle.cw_job.specs.Room.Runners.{IsRunner, place_of, state_in}
use Rattle.cw_body.specs.declared.stage.Stage.TheVariants.{Goes}
use Rattle.cw_body.specs.Bodies.{AnswersAct, InBlocks, elements_of, strands_of_program, want_of}
use Rattle.cw_body.proofs.InMemory.Calls.{answered_so}
use Rattle.cw_body.proofs.body.Body.answer.Goals as goal

pub invariant_of-self-2 : goal.invariant_of-self-2
invariant_of-self-2 c =
    let x = c.self.inside in
    let going : x.stage.value ≡ Goes = ap (λ (v : InBlocks). v.stage) c.self.view_is ∙ c.requires.goes in
    let same : c.args.program.now ≡ x.program.value = c.requires.program ∙ sym (ap (λ (v : InBlocks). v.program) c.self.view_is) in
    let P : Program → Type 0 = λ p. IsRunner p c.answer.new.self in
    let R : Program → Type 0 = λ p. place_of c.answer.new.self ≡ state_in p c.answer.new.self in
    let Q : InBlocks → Type 0 = λ v. AnswersAct (elements_of v) (want_of v) c.args.given in
    let S : Program → Type 0 = λ p. state_in p c.answer.new.self ≡ (strands_of_program x.program.value).answer (state_in p x.runner) c.args.given in
    record {
      kept = c.self.invariant.kept;
      stands = answered_so x.program.value x.stage.value c.of-2.result.value x.level x.runner c.answer.new.self going c.of-2.ensures (subst P same c.in_ok-answer.ensures.runner) (subst R same c.in_ok-answer.ensures.place) c.args.given x.begins
          (subst Q (sym c.self.view_is) c.requires.answers) (subst S same (c.in_ok-answer.ensures.answer (bare_job x.program.value) (sym same))) c.self.invariant.stands;
    }
