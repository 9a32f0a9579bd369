use Rattle.std.proofs.Common.{sym, ◌∙◌}
use Rattle.cw_pool.proofs.Tasks.Stopping.{is_faulty}
use Rattle.cw_pool.proofs.moves.stop_at_fault.Goals as goal

pub invariant_of-now : goal.invariant_of-now
invariant_of-now g c = is_faulty _ _ _ _ _ _ _ _ _ c.in-Some-Fault.kind c.in-Goes.is c.now.invariant (sym (c.in-Some-Fault.ensures g.J.RunName.job) ∙ c.in-Some-Fault.field-0-is) c.halt.ensures
