use Rattle.cw_pool.proofs.Tasks.Blocks.{back_so, further_so, rolls_block, rolls_begin, found_at}
use Rattle.cw_pool.proofs.blocks.roll_block.Goals as goal

pub roll-requires-clause-block : goal.roll-requires-clause-block
roll-requires-clause-block g c = rolls_block _ _ _ _ _ c.in-Some.begin _ _ c.now.invariant (found_at _ _ _ _ c.nodes.ensures c.place-place.ensures c.begin_at.ensures c.in-Some.is)

pub back-requires-clause-block : goal.back-requires-clause-block
back-requires-clause-block g c = rolls_begin _ _ _ _ _ _ c.in-Some.begin _ _ c.in-Dies.is c.now.invariant (found_at _ _ _ _ c.nodes.ensures c.place-place.ensures c.begin_at.ensures c.in-Some.is)

pub invariant_of-now : goal.invariant_of-now
invariant_of-now g c =
    let (end, ended_now) = c.roll.ensures in
    back_so _ _ _ _ _ _ _ _ c.in-Some.begin end _ _ c.in-Dies.is c.now.invariant (found_at _ _ _ _ c.nodes.ensures c.place-place.ensures c.begin_at.ensures c.in-Some.is) c.if-begin-to.true ended_now c.back.ensures.back

pub forget-requires-clause-block : goal.forget-requires-clause-block
forget-requires-clause-block g c = rolls_begin _ _ _ _ _ _ c.in-Some.begin _ _ c.in-Dies.is c.now.invariant (found_at _ _ _ _ c.nodes.ensures c.place-place.ensures c.begin_at.ensures c.in-Some.is)

pub invariant_of-now-else-begin-to : goal.invariant_of-now-else-begin-to
invariant_of-now-else-begin-to g c =
    let (end, ended_now) = c.roll.ensures in
    further_so _ _ _ _ _ _ _ _ c.in-Some.begin end _ _ c.in-Dies.is c.now.invariant (found_at _ _ _ _ c.nodes.ensures c.place-place.ensures c.begin_at.ensures c.in-Some.is) c.if-begin-to.false ended_now c.forget.ensures
