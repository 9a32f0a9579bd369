use Rattle.std.proofs.Common.{sym}
use Rattle.cw_pool.proofs.Tasks.Behind.{goes_behind, fails_behind}
use Rattle.cw_pool.proofs.ends.rejoin.Goals as goal

pub task_of-requires-after_bounds : goal.task_of-requires-after_bounds
task_of-requires-after_bounds g c lives within = goes_behind _ _ _ _ _ _ _ _ _ c.in-Goes.is c.requires (c.in-Ok.ensures.ok g.J.RunName.job (sym c.args.scene.now.program_of))

pub task_of-requires-in-Err-after_bounds : goal.task_of-requires-in-Err-after_bounds
task_of-requires-in-Err-after_bounds g c lives within = fails_behind _ _ _ _ _ _ _ _ _ _ c.in-Goes.is c.requires c.halt.ensures
