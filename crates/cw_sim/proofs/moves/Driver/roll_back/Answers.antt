-- The core rolls the block back, and the body goes back to its begin.
use Rattle.std.proofs.lemmas.Result.{on_ok_weaker}
use Rattle.cw_sim.proofs.InMemory.Ends.{block_some}
use Rattle.cw_sim.proofs.InMemory.Rolls.{roll_fits_there, roll_body, roll_back, roll_comes}
use Rattle.cw_sim.proofs.moves.Driver.roll_back.Goals as goal

pub take-saved-requires : goal.take-saved-requires
take-saved-requires c = let (z, may) = c.requires in block_some c.args.self.now c.args.strand z c.place-block.result may.step may.within c.place-block.ensures

pub take-body-requires : goal.take-body-requires
take-body-requires c = let (z, may) = c.requires in roll_body c.args.self.now c.args.strand z may

pub step-requires : goal.step-requires
step-requires c = let (z, may) = c.requires in roll_fits_there c.args.self.now c.args.strand z may

pub back-requires : goal.back-requires
back-requires c =
    let (z, may) = c.requires in
    roll_back c.args.self.now c.args.strand z may c.place-block.result c.place-block.ensures c.take-saved.result c.take-body.result c.take-saved.ensures.thing c.take-body.ensures.thing

pub returns : goal.returns
returns c =
    on_ok_weaker c.put.result
    (λ put z may. roll_comes c.args.self.now c.args.strand z may c.place-block.result c.place-block.ensures c.take-saved.result c.take-body.result c.take-saved.ensures.thing c.take-body.ensures.thing
    c.take-saved.new.self c.take-body.new.self c.put.new.self c.step.new.self c.back.new.self c.take-saved.ensures.takes c.take-body.ensures.takes put c.in-Ok.ensures.ok c.in-Ok.ensures.stands c.back.ensures.back c.back.ensures.stands)
    c.put.ensures
