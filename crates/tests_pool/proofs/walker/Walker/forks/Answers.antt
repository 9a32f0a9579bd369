use Rattle.std.proofs.Common.{rules, ◌≡◌, ◌∙◌, ◌+◌, refl, sym, ap}
use Rattle.cw_body.specs.declared.stage.Stage.TheVariants.{Goes}
use Rattle.cw_job.specs.Jobs.{bare_job}
use Rattle.cw_job.specs.Room.Strands.{strands_of_job}
use Rattle.tests_pool.specs.Levels.{levels_at}
use Rattle.tests_pool.proofs.Walks.{Stands, goes_left, goes_right}
use Rattle.tests_pool.proofs.walker.Walker.forks.Goals as goal

pub invariant_of-left : goal.invariant_of-left
invariant_of-left c =
    let x = c.args.self in
    let job = bare_job x.program.now in
    let w = goes_left x.program.now (strands_of_job job) x.body c.in-Ok.body x.of (c.in-Ok.ensures.left job refl) in
    record { goes = w.at; of = w.of; around = c.new.ensures ∙ w.around }

pub invariant_of-right : goal.invariant_of-right
invariant_of-right c =
    let x = c.args.self in
    let job = bare_job x.program.now in
    let h : Stands Goes x.program.now x.level x.levels x.body = record { at = x.goes; of = x.of; around = x.around } in
    let w = goes_right Goes x.program.now x.level (strands_of_job job) x.levels x.body c.fork.new.self h (c.in-Ok.ensures.right job refl) in
    let up : c.in-Some.level ≡ x.level + 1 = search (rules, c.in-Some.ensures) in
    record { goes = w.at; of = w.of; around = w.around ∙ ap (λ k. levels_at k c.fork.new.self.begins) (sym up) }

pub invariant_of-right-2 : goal.invariant_of-right-2
invariant_of-right-2 c =
    let x = c.args.self in
    let job = bare_job x.program.now in
    let h : Stands Goes x.program.now x.level x.levels x.body = record { at = x.goes; of = x.of; around = x.around } in
    let w = goes_right Goes x.program.now x.level (strands_of_job job) x.levels x.body c.fork.new.self h (c.in-Ok.ensures.right job refl) in
    let up : c.in-Some.level ≡ x.level + 1 = search (rules, c.in-Some.ensures) in
    record { goes = w.at; of = w.of; around = w.around ∙ ap (λ k. levels_at k c.fork.new.self.begins) (sym up) }
