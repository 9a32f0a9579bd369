-- The worker is as it was, with one fork more.
use Rattle.std.proofs.Common.{◌<◌, length, ap, sym, ◌∙◌, arith}
use Rattle.cw_sim.specs.Workers.{with_fork}
use Rattle.cw_sim.specs.WorkersInMemory.{worker_of}
use Rattle.cw_sim.proofs.InMemory.Workers.{changed_in}
use Rattle.cw_sim.proofs.worker.with_fork.Goals as goal

pub returns-in_ok-push_back : goal.returns-in_ok-push_back
returns-in_ok-push_back c =
    let ws = c.args.workers.now in
    let old = c.index_mut-worker.result.now in
    let low : c.args.w < length ws.items = omega (arith, c.requires, ws.ok.0) in
    changed_in ws.items c.args.w old (record old { deque = c.push_back.new.self }) low c.index_mut-worker.ensures.value (with_fork c.args.columns c.args.fork)
    (ap (λ ds. record (worker_of old) { deque = ds }) c.in_ok-push_back.ensures.items ∙ ap (λ b. with_fork b c.args.fork (worker_of old)) (sym c.if-columns.true))

pub returns-in_ok-push : goal.returns-in_ok-push
returns-in_ok-push c =
    let ws = c.args.workers.now in
    let old = c.index_mut-worker.result.now in
    let low : c.args.w < length ws.items = omega (arith, c.requires, ws.ok.0) in
    changed_in ws.items c.args.w old (record old { inline = c.push.new.self }) low c.index_mut-worker.ensures.value (with_fork c.args.columns c.args.fork)
    (ap (λ is. record (worker_of old) { inline = is }) c.in_ok-push.ensures.items ∙ ap (λ b. with_fork b c.args.fork (worker_of old)) (sym c.if-columns.false))
