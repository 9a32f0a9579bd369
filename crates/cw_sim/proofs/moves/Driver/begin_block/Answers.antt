-- What the body needs to stand here again is kept, the core begins the block, and the strand is answered.
use Rattle.std.proofs.lemmas.Result.{on_ok_weaker}
use Rattle.cw_sim.proofs.InMemory.Begins.{begin_fits_there, begin_body, begun, begin_may, begin_comes}
use Rattle.cw_sim.proofs.moves.Driver.begin_block.Goals as goal

pub at-requires : goal.at-requires
at-requires c = let (z, may) = c.requires in begin_body c.args.self.now c.args.strand z may

pub step-requires : goal.step-requires
step-requires c = let (z, may) = c.requires in begin_fits_there c.args.self.now c.args.strand z may

pub answer_want-requires : goal.answer_want-requires
answer_want-requires c =
    let (z, may) = c.requires in (
      begun c.args.self.now c.args.strand z may,
      begin_may c.args.self.now c.args.strand z may c.at.result.now c.at.ensures c.in_ok-saved.saved c.in_ok-saved.ensures c.next_node-block.result c.put.new.self c.step.new.self c.next_node-block.ensures c.in_ok-put.ensures
          c.in_ok-step.ensures.ok c.in_ok-step.ensures.stands,
    )

pub returns : goal.returns
returns c =
    on_ok_weaker c.answer_want.result
    (λ stands z may. begin_comes c.args.self.now c.args.strand z may c.answer_want.new.self
    (stands (begun c.args.self.now c.args.strand z may)
    (begin_may c.args.self.now c.args.strand z may c.at.result.now c.at.ensures c.in_ok-saved.saved c.in_ok-saved.ensures c.next_node-block.result c.put.new.self c.step.new.self c.next_node-block.ensures c.in_ok-put.ensures
    c.in_ok-step.ensures.ok c.in_ok-step.ensures.stands)))
    c.answer_want.ensures.stands
