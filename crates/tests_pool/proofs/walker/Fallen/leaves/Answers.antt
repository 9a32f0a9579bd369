use Rattle.std.proofs.Common.{◌≡◌, ◌∙◌, ◌∷◌, refl, sym}
use Rattle.cw_body.specs.declared.stage.Stage.TheVariants.{Goes, GaveUp}
use Rattle.cw_job.specs.Jobs.{bare_job}
use Rattle.cw_job.specs.Room.Strands.{strands_of_job}
use Rattle.tests_pool.proofs.Walks.{Stands, forgets, has_begin}
use Rattle.tests_pool.proofs.walker.Fallen.leaves.Goals as goal

pub forget-requires-clause-block : goal.forget-requires-clause-block
forget-requires-clause-block c =
    let x = c.args.self in
    let h : Stands GaveUp x.program.now x.level (c.in-Some.field-0 ∷ c.pop.new.self) x.body = record { at = x.gave_up; of = x.of; around = sym c.in-Some.ensures ∙ x.around } in
    has_begin GaveUp x.program.now x.level c.in-Some.field-0 c.pop.new.self x.body h

pub invariant_of-result : goal.invariant_of-result
invariant_of-result c =
    let x = c.args.self in
    let h : Stands GaveUp x.program.now x.level (c.in-Some.field-0 ∷ c.pop.new.self) x.body = record { at = x.gave_up; of = x.of; around = sym c.in-Some.ensures ∙ x.around } in
    let w = forgets GaveUp x.program.now x.level c.in-Some.field-0 c.pop.new.self x.body c.forget.new.self h c.forget.ensures in
    record { gave_up = w.at; of = w.of; around = w.around }
