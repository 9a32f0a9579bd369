use denote.Param.Send.{sendable}
use Rattle.std.proofs.Crossing.{crosses}
use Rattle.cw_pool.proofs.Crossing.{worker_send, common_sync}
use Rattle.cw_pool.proofs.crew.fn.run_workers.scope.Goals as goal

pub spawn-requires-send-F : goal.spawn-requires-send-F
spawn-requires-send-F g c κs within =
    let (rt, board, gate, naming, sent, token) = c.requires in
    search (crosses, sendable, worker_send, common_sync) depth 20
