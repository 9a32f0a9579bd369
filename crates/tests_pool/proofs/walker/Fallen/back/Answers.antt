use Rattle.std.proofs.Common.{rules, ◌≡◌, ◌∙◌, ◌+◌, ◌<◌, ◌∷◌, length, sym, subst}
use Rattle.cw_body.specs.declared.stage.Stage.TheVariants.{GaveUp}
use Rattle.tests_pool.specs.Levels.{AreUnder}
use Rattle.tests_pool.proofs.Walks.{Stands, goes_back, has_begin}
use Rattle.tests_pool.proofs.walker.Fallen.back.Goals as goal

pub invariant_of-result : goal.invariant_of-result
invariant_of-result c =
    let x = c.args.self in
    let h : Stands GaveUp x.program.now x.level (c.in-Some.level ∷ c.pop.new.self) x.body = record { at = x.gave_up; of = x.of; around = sym c.in-Some.ensures ∙ x.around } in
    let up : c.in-Some-checked_add.above ≡ c.in-Some.level + 1 = search (rules, c.in-Some-checked_add.ensures) in
    let below : AreUnder (c.in-Some.level + 1) c.pop.new.self = subst (λ k. AreUnder k c.pop.new.self) up (c.in-Ok.ensures c.if-not-below.false) in
    let w = goes_back x.program.now x.level c.in-Some.level c.pop.new.self x.body c.back.new.self h below c.back.ensures.back in
    record { goes = w.at; of = w.of; around = w.around }
