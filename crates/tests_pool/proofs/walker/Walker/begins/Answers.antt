use Rattle.std.proofs.Common.{◌≡◌, ◌∙◌, refl, sym}
use Rattle.cw_body.specs.declared.stage.Stage.TheVariants.{Goes, GaveUp}
use Rattle.cw_job.specs.Jobs.{bare_job}
use Rattle.cw_job.specs.Room.Strands.{strands_of_job}
use Rattle.tests_pool.proofs.Walks.{Stands, begins}
use Rattle.tests_pool.proofs.walker.Walker.begins.Goals as goal

pub invariant_of-walker : goal.invariant_of-walker
invariant_of-walker c =
    let x = c.args.self in
    let job = bare_job x.program.now in
    let h : Stands Goes x.program.now x.level x.levels x.body = record { at = x.goes; of = x.of; around = x.around } in
    let w = begins Goes x.program.now x.level (strands_of_job job) x.levels x.body c.begins.new.self h (c.in-Ok.ensures.ok job refl) in
    record { goes = w.at; of = w.of; around = c.in-Ok-push.ensures.ok ∙ w.around }
