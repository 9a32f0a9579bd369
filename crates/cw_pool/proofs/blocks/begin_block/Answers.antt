use Rattle.std.proofs.Common.{sym, ◌∙◌}
use Rattle.cw_pool.proofs.Tasks.Blocks.{begins_so, begins_last}
use Rattle.cw_pool.proofs.blocks.begin_block.Goals as goal

pub invariant_of-now-in-Ok-begins : goal.invariant_of-now-in-Ok-begins
invariant_of-now-in-Ok-begins g c =
    let (stamp, later, began_now) = c.in-Ok.ensures.ok in
    begins_so _ _ _ _ _ _ _ _ _ stamp c.in-Goes.is c.now.invariant (sym (c.in-Some-Begin.ensures g.J.RunName.job) ∙ c.in-Some-Begin.field-0-is) later began_now (c.in-Ok-begins.ensures.ok g.J.RunName.job (sym c.args.scene.now.program_of))

pub invariant_of-now-in-Err : goal.invariant_of-now-in-Err
invariant_of-now-in-Err g c =
    let (stamp, later, began_now) = c.in-Ok.ensures.ok in
    begins_last _ _ _ _ _ _ _ _ _ _ stamp c.in-Goes.is c.now.invariant (sym (c.in-Some-Begin.ensures g.J.RunName.job) ∙ c.in-Some-Begin.field-0-is) later began_now c.halt.ensures
