use Rattle.std.proofs.Common.{◌≡◌, ◌∙◌, ◌∷◌, refl, sym}
use Rattle.cw_body.specs.declared.stage.Stage.TheVariants.{Goes, GaveUp}
use Rattle.cw_job.specs.Jobs.{bare_job}
use Rattle.cw_job.specs.Room.Strands.{strands_of_job}
use Rattle.tests_pool.proofs.Walks.{Stands, ends, has_begin}
use Rattle.tests_pool.proofs.walker.Walker.ends.Goals as goal

pub ends-requires-clause-block : goal.ends-requires-clause-block
ends-requires-clause-block c =
    let x = c.args.self in
    let h : Stands Goes x.program.now x.level (c.in-Some.field-0 ∷ c.pop.new.self) x.body = record { at = x.goes; of = x.of; around = sym c.in-Some.ensures ∙ x.around } in
    has_begin Goes x.program.now x.level c.in-Some.field-0 c.pop.new.self x.body h

pub invariant_of-result : goal.invariant_of-result
invariant_of-result c =
    let x = c.args.self in
    let job = bare_job x.program.now in
    let h : Stands Goes x.program.now x.level (c.in-Some.field-0 ∷ c.pop.new.self) x.body = record { at = x.goes; of = x.of; around = sym c.in-Some.ensures ∙ x.around } in
    let w = ends Goes x.program.now x.level (strands_of_job job) c.in-Some.field-0 c.pop.new.self x.body c.ends.new.self h (c.in-Ok.ensures.ok job refl) in
    record { goes = w.at; of = w.of; around = w.around }
