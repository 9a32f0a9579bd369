use Rattle.std.proofs.Common.{◌≡◌, ◌∙◌, ◌<◌, List, length, ap, sym, subst}
use Rattle.cw_code.specs.declared.program.Program.{Program}
use Rattle.cw_strand.specs.declared.want.Want.TheVariants as want
use Rattle.cw_strand.specs.declared.want.Given.TheVariants.{Nothing}
use Rattle.cw_job.specs.Jobs.{bare_job}
use Rattle.cw_job.specs.Room.Runners.{IsRunner, place_of, state_in}
use Rattle.cw_body.specs.declared.begin.Begin.{Begin}
use Rattle.cw_body.specs.declared.stage.Stage.TheVariants.{Goes}
use Rattle.cw_body.specs.Bodies.{InBlocks, strands_of_program, want_of}
use Rattle.cw_body.specs.InMemory.{AreKept, StandsSo}
use Rattle.cw_body.proofs.InMemory.Calls.{ended_so}
use Rattle.cw_body.proofs.InMemory.Shown.{innermost}
use Rattle.cw_body.proofs.body.Body.ends.Goals as goal

pub invariant_of-self-2 : goal.invariant_of-self-2
invariant_of-self-2 c =
    let x = c.self.inside in
    let p = x.program.value in
    let rest = c.pop-ended.new.self in
    let going : x.stage.value ≡ Goes = ap (λ (v : InBlocks). v.stage) c.self.view_is ∙ c.requires.goes in
    let same : c.args.program.now ≡ p = c.requires.program ∙ sym (ap (λ (v : InBlocks). v.program) c.self.view_is) in
    let P : Program → Type 0 = λ q. IsRunner q c.answer.new.self in
    let There : Program → Type 0 = λ q. place_of c.answer.new.self ≡ state_in q c.answer.new.self in
    let On : Program → Type 0 = λ q. state_in q c.answer.new.self ≡ (strands_of_program p).answer (state_in q x.runner) Nothing in
    let Q : InBlocks → Type 0 = λ v. want_of v ≡ want.End in
    let L : InBlocks → Type 0 = λ v. 0 < length v.begins in
    let K : List Begin → Type 0 = λ bs. AreKept p bs in
    let S : List Begin → Type 0 = λ bs. StandsSo p x.stage.value x.level x.runner bs in
    let (b, e) = innermost x.level c.pop-ended.result x.begins rest c.pop-ended.ensures (subst L (sym c.self.view_is) c.requires.block) in
    record {
      kept = (subst K e c.self.invariant.kept).1;
      stands = ended_so p x.stage.value c.of-2.result.value x.level x.runner c.answer.new.self going c.of-2.ensures (subst P same c.in_ok-answer.ensures.runner) (subst There same c.in_ok-answer.ensures.place)
          b rest (subst Q (sym c.self.view_is) c.requires.end) (subst On same (c.in_ok-answer.ensures.answer (bare_job p) (sym same))) (subst S e c.self.invariant.stands);
    }
