use Rattle.std.proofs.Common.{◌≡◌, ◌∙◌, ap, sym}
use Rattle.cw_body.specs.Bodies.{InBlocks}
use Rattle.tests_pool.specs.Levels.{levels_at}
use Rattle.tests_pool.proofs.walker.Walker.runs.Goals as goal

pub invariant_of-walker : goal.invariant_of-walker
invariant_of-walker c =
    let x = c.args.self in
    let e : c.run.new.self ≡ x.body = c.in-Ok.ensures.ok in
    record { goes = ap (λ (v : InBlocks). v.stage) e ∙ x.goes; of = ap (λ (v : InBlocks). v.program) e ∙ x.of; around = x.around ∙ ap (λ (v : InBlocks). levels_at x.level v.begins) (sym e) }
