-- One idle worker more.
use Rattle.std.proofs.Common.{◌≡◌, ◌+◌, ◌-◌, ◌∷◌, ap, ◌∙◌, arith, replicate, Some}
use Rattle.cw_sim.specs.Workers.{Worker, idle}
use Rattle.cw_sim.specs.WorkersInMemory.{workers_of}
use Rattle.cw_sim.proofs.InMemory.Workers.{idle_more, is_idle}
use Rattle.cw_sim.proofs.worker.opening.Goals as goal

pub loop-i-preserved : goal.loop-i-preserved
loop-i-preserved c =
    let first : Worker = record idle { runs = Some 0 } in
    let x = c.resting_worker-in-loop-i in
    let next : c.loop-i._i - 1 + 1 ≡ c.loop-i._i + 1 - 1 = omega (arith, c.loop-i.auto._i) in
    ap workers_of c.in_ok-push-2.ensures.items
    ∙ idle_more c.loop-i.all.items x.result first (c.loop-i._i - 1) c.loop-i.invariant (is_idle x.result x.ensures.runs x.ensures.deque x.ensures.inline)
    ∙ ap (λ k. first ∷ replicate k idle) next
