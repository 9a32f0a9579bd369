use Rattle.std.proofs.Common.{sym, ◌∙◌}
use Rattle.cw_pool.proofs.Tasks.Blocks.{has_block, has_begin, ends_so, ends_last}
use Rattle.cw_pool.proofs.blocks.end_block.Goals as goal

pub commit-requires-clause-block : goal.commit-requires-clause-block
commit-requires-clause-block g c = has_block _ _ _ _ _ _ _ c.in-Goes.is c.now.invariant (sym (c.in-Some-End.ensures g.J.RunName.job) ∙ c.in-Some-End.field-0-is)

pub ends-requires-clause-block : goal.ends-requires-clause-block
ends-requires-clause-block g c = has_begin _ _ _ _ _ _ _ c.in-Goes.is c.now.invariant (sym (c.in-Some-End.ensures g.J.RunName.job) ∙ c.in-Some-End.field-0-is)

pub invariant_of-now : goal.invariant_of-now
invariant_of-now g c =
    let (end, ended_now) = c.commit.ensures in
    ends_so _ _ _ _ _ _ _ _ _ end c.in-Goes.is c.now.invariant (sym (c.in-Some-End.ensures g.J.RunName.job) ∙ c.in-Some-End.field-0-is) ended_now (c.in-Ok.ensures.ok g.J.RunName.job (sym c.args.scene.now.program_of))

pub invariant_of-now-in-Err : goal.invariant_of-now-in-Err
invariant_of-now-in-Err g c =
    let (end, ended_now) = c.commit.ensures in
    ends_last _ _ _ _ _ _ _ _ _ _ end c.in-Goes.is c.now.invariant (sym (c.in-Some-End.ensures g.J.RunName.job) ∙ c.in-Some-End.field-0-is) ended_now c.halt.ensures
