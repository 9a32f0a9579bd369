use Rattle.std.proofs.Common.{◌≡◌, ◌∙◌, ap, sym, subst}
use Rattle.cw_code.specs.declared.program.Program.{Program}
use Rattle.cw_job.specs.Room.Runners.{IsRunner, place_of, state_in}
use Rattle.cw_body.specs.declared.stage.Stage.TheVariants.{Goes}
use Rattle.cw_body.specs.Bodies.{InBlocks}
use Rattle.cw_body.proofs.InMemory.Calls.{ran_so}
use Rattle.cw_body.proofs.body.Body.run.Goals as goal

pub invariant_of-self-2 : goal.invariant_of-self-2
invariant_of-self-2 c =
    let x = c.self.inside in
    let p = x.program.value in
    let going : x.stage.value ≡ Goes = ap (λ (v : InBlocks). v.stage) c.self.view_is ∙ c.requires.goes in
    let same : c.args.program.now ≡ p = c.requires.program ∙ sym (ap (λ (v : InBlocks). v.program) c.self.view_is) in
    let P : Program → Type 0 = λ q. IsRunner q c.run.new.self in
    let There : Program → Type 0 = λ q. place_of c.run.new.self ≡ state_in q c.run.new.self in
    let Ran : Program → Type 0 = λ q. state_in q c.run.new.self ≡ state_in q x.runner in
    record {
      kept = c.self.invariant.kept;
      stands = ran_so p x.stage.value c.of-2.result.value x.level x.runner c.run.new.self going c.of-2.ensures (subst P same c.in_ok-want.ensures.runner) (subst There same c.in_ok-want.ensures.place) x.begins
          (subst Ran same c.in_ok-want.ensures.same) c.self.invariant.stands;
    }
