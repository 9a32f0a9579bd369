-- The core ends the block, and the strand is answered.
use Rattle.std.proofs.Common.{None, sym, ap, ◌∙◌}
use Rattle.std.proofs.lemmas.Result.{on_ok_weaker}
use Rattle.cw_tree.specs.Series.{place}
use Rattle.cw_core.specs.declared.event.Event.TheVariants as event
use Rattle.cw_sim.specs.Moves.{does}
use Rattle.cw_sim.specs.ThingsInMemory.{thing_at}
use Rattle.cw_sim.proofs.InMemory.PutThings.{put_here}
use Rattle.cw_sim.proofs.InMemory.Ends.{block_some, end_within, end_fits_there, end_may, end_comes}
use Rattle.cw_sim.proofs.moves.Driver.end_block.Goals as goal

pub take-requires : goal.take-requires
take-requires c =
    let (z, may) = c.requires in
    block_some c.args.self.now c.args.strand z c.place-block.result may.step (end_within c.args.self.now c.args.strand z may) c.place-block.ensures

pub step-requires : goal.step-requires
step-requires c = let (z, may) = c.requires in end_fits_there c.args.self.now c.args.strand z may

pub answer_want-requires : goal.answer_want-requires
answer_want-requires c =
    let (z, may) = c.requires in (
      record z { m = does (event.Commit c.args.strand) z.m },
      end_may c.args.self.now c.args.strand z may c.place-block.result c.take.new.self c.step.new.self c.place-block.ensures c.take.ensures.takes c.in_ok-step.ensures.ok c.in_ok-step.ensures.stands,
    )

pub returns-clause-comes : goal.returns-clause-comes
returns-clause-comes c =
    on_ok_weaker c.answer_want.result
    (λ stands z may. end_comes c.args.self.now c.args.strand z may c.answer_want.new.self
    (stands (record z { m = does (event.Commit c.args.strand) z.m })
    (end_may c.args.self.now c.args.strand z may c.place-block.result c.take.new.self c.step.new.self c.place-block.ensures c.take.ensures.takes c.in_ok-step.ensures.ok c.in_ok-step.ensures.stands)))
    c.answer_want.ensures.stands

pub returns-clause-saves : goal.returns-clause-saves
returns-clause-saves c =
    on_ok_weaker c.answer_want.result
    (λ stands. ap (λ x. thing_at x (place c.args.self.now.core.machine.tree c.args.strand)) c.answer_want.ensures.saves ∙ (ap (thing_at c.take.new.self) (sym c.place-block.ensures) ∙ put_here c.args.self.now.saved c.take.new.self c.place-block.result None c.take.ensures.takes))
    c.answer_want.ensures.stands
