-- The core gives up the block, and the strand learns what to put back.
use Rattle.std.proofs.lemmas.Result.{on_ok_weaker}
use Rattle.cw_core.specs.declared.event.Event.TheVariants as event
use Rattle.cw_sim.specs.Moves.{does}
use Rattle.cw_sim.proofs.InMemory.Acts.{cancel_fits_there, cancel_may, cancel_comes}
use Rattle.cw_sim.proofs.moves.Driver.give_up.Goals as goal

pub step-requires : goal.step-requires
step-requires c = cancel_fits_there c.args.self.now c.args.strand c.requires.0 c.requires.1

pub answer_want-requires : goal.answer_want-requires
answer_want-requires c =
    let (z, may) = c.requires in (
      record z { m = does (event.Cancel c.args.strand) z.m },
      cancel_may c.args.self.now c.args.strand z may c.step.new.self c.in_ok-back.ensures.ok c.in_ok-back.ensures.stands,
    )

pub returns : goal.returns
returns c =
    let s = c.args.self.now in
    let x = c.args.strand in
    on_ok_weaker c.answer_want.result
    (λ stands z may.
    let told = record z { m = does (event.Cancel x) z.m } in
    cancel_comes s x z may c.in_ok-back.field-0 c.in-Back.back c.in-Back.is c.in_ok-back.ensures.reply c.answer_want.new.self
    (stands told (cancel_may s x z may c.step.new.self c.in_ok-back.ensures.ok c.in_ok-back.ensures.stands)))
    c.answer_want.ensures.stands
