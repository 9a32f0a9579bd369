use Rattle.cw_top.proofs.CommandRuns.{of_one_worker}
use Rattle.cw_top.proofs.running.run_depth_first.Goals as goal

pub returns-clause-done : goal.returns-clause-done
returns-clause-done c = let ran = c.depth_first in of_one_worker ran.result ran.ensures.conflicts ran.ensures.ended ran.ensures.coherent ran.ensures.depth_first ran.ensures.replays ran.ensures.blocks
