-- The worker is as it was, except for what it runs.
use Rattle.std.proofs.Common.{◌<◌, length, refl, arith}
use Rattle.cw_sim.proofs.InMemory.Workers.{changed_in}
use Rattle.cw_sim.proofs.worker.with_run.Goals as goal

pub returns : goal.returns
returns c =
    let ws = c.args.workers.now in
    let old = c.index_mut-worker.result.now in
    let low : c.args.w < length ws.items = omega (arith, c.requires, ws.ok.0) in
    changed_in ws.items c.args.w old (record old { runs = c.args.runs }) low c.index_mut-worker.ensures.value (λ x. record x { runs = c.args.runs }) refl
