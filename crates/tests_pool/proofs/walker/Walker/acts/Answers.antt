use Rattle.std.proofs.Common.{◌≡◌, ◌∙◌, refl, sym}
use Rattle.cw_body.specs.declared.stage.Stage.TheVariants.{Goes, GaveUp}
use Rattle.cw_job.specs.Jobs.{bare_job}
use Rattle.cw_job.specs.Room.Strands.{strands_of_job}
use Rattle.tests_pool.proofs.Walks.{Stands, acts}
use Rattle.tests_pool.proofs.walker.Walker.acts.Goals as goal

pub invariant_of-walker : goal.invariant_of-walker
invariant_of-walker c =
    let x = c.args.self in
    let job = bare_job x.program.now in
    let h : Stands Goes x.program.now x.level x.levels x.body = record { at = x.goes; of = x.of; around = x.around } in
    let w = acts Goes x.program.now x.level (strands_of_job job) c.in-Some-given.given x.levels x.body c.answer.new.self h (c.in-Ok.ensures.ok job refl) in
    record { goes = w.at; of = w.of; around = w.around }
