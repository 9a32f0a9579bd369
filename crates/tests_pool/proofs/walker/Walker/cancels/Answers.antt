use Rattle.std.proofs.Common.{◌≡◌, ℕ, List, ◌∙◌, ap, refl, subst, sym}
use Rattle.cw_code.specs.declared.Back.{Back}
use Rattle.cw_code.specs.declared.instruction.Code.{Code}
use Rattle.cw_code.specs.declared.program.Program.{Program}
use Rattle.cw_body.specs.Bodies.{AnswersAct, elements_of}
use Rattle.cw_body.specs.declared.stage.Stage.TheVariants.{Goes}
use Rattle.cw_strand.specs.declared.want.Given.TheVariants.{Back as Wrote}
use Rattle.cw_strand.specs.declared.want.Want.{Want}
use Rattle.cw_strand.specs.Strands.{AreElements}
use Rattle.cw_job.specs.Jobs.{bare_job}
use Rattle.cw_job.specs.Room.Strands.{strands_of_job}
use Rattle.tests_pool.proofs.Walks.{Stands, acts, elements_there}
use Rattle.tests_pool.proofs.walker.Walker.cancels.Goals as goal

pub answer-requires-clause-answers : goal.answer-requires-clause-answers
answer-requires-clause-answers c =
    let x = c.args.self in
    let n = elements_of x.body in
    let there : AreElements c.code.result.now.cells c.args.back.now = c.if-not-are_elements.ensures refl in
    let many : n ≡ c.code.result.now.cells =
    elements_there x.body.program ∙ (ap (λ (p : Program). p.code.cells) x.of ∙ sym (ap (λ (k : Code). k.cells) c.code.ensures.code)) in
    let same : c.from_vec-list.result ≡ c.args.back.now = c.from_vec-list.ensures ∙ c.in-Ok.ensures.items in
    let listed : AreElements n c.from_vec-list.result =
    subst (λ (bs : List Back). AreElements n bs) (sym same) (subst (λ (k : ℕ). AreElements k c.args.back.now) (sym many) there) in
    subst (λ (w : Want). AnswersAct n w (Wrote c.from_vec-list.result)) (sym (sym (c.in-Some-Cancel.ensures (bare_job x.body.program)) ∙ c.in-Some-Cancel.field-0-is)) listed

pub invariant_of-walker : goal.invariant_of-walker
invariant_of-walker c =
    let x = c.args.self in
    let job = bare_job x.program.now in
    let h : Stands Goes x.program.now x.level x.levels x.body = record { at = x.goes; of = x.of; around = x.around } in
    let w = acts Goes x.program.now x.level (strands_of_job job) (Wrote c.from_vec-list.result) x.levels x.body c.answer.new.self h (c.in-Ok-answer.ensures.ok job refl) in
    record { goes = w.at; of = w.of; around = w.around }
