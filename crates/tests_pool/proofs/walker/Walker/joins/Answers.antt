use Rattle.std.proofs.Common.{rules, ◌≡◌, ◌∙◌, ◌-◌, refl, sym, ap}
use Rattle.cw_body.specs.declared.stage.Stage.TheVariants.{Goes}
use Rattle.cw_job.specs.Jobs.{bare_job}
use Rattle.cw_job.specs.Room.Strands.{strands_of_job}
use Rattle.tests_pool.specs.Levels.{levels_at}
use Rattle.tests_pool.proofs.Walks.{Stands, joins, is_free}
use Rattle.tests_pool.proofs.walker.Walker.joins.Goals as goal

pub join-requires-clause-over : goal.join-requires-clause-over
join-requires-clause-over c = c.is_over.ensures c.if-not-is_over.false

pub join-requires-clause-blocks : goal.join-requires-clause-blocks
join-requires-clause-blocks c =
    let x = c.args.self in
    let h : Stands Goes x.program.now x.level x.levels x.body = record { at = x.goes; of = x.of; around = x.around } in
    is_free Goes x.program.now x.level x.levels x.body h (c.in-Ok.ensures c.if-not-below.false)

pub invariant_of-right : goal.invariant_of-right
invariant_of-right c =
    let x = c.args.self in
    let job = bare_job x.program.now in
    let h : Stands Goes x.program.now x.level x.levels x.body = record { at = x.goes; of = x.of; around = x.around } in
    let w = joins Goes x.program.now x.level (strands_of_job job) x.levels x.body c.args.left.body c.join.new.self h (c.in-Ok.ensures c.if-not-below.false) (c.in-Ok-join.ensures.ok job refl) in
    let down : c.saturating_sub.result ≡ x.level - 1 = search (rules, c.saturating_sub.ensures) in
    record { goes = w.at; of = w.of; around = w.around ∙ ap (λ k. levels_at k c.join.new.self.begins) (sym down) }
