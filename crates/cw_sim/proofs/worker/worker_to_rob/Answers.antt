-- Each of those after a worker is looked at, until one has forks.
use Rattle.std.proofs.Common.{◌≡◌, ◌+◌, ◌-◌, ◌%◌, length, drop, refl, ap, sym, ◌∙◌, arith}
use Rattle.std.proofs.lemmas.Nat.{mod_below}
use Rattle.cw_sim.specs.WorkersInMemory.{workers_of, first_with_forks, workers_next}
use Rattle.cw_sim.proofs.InMemory.Workers.{found_here, not_here, none_after, empty_there, some_there}
use Rattle.cw_sim.proofs.worker.worker_to_rob.Goals as goal

pub returns-then-not-is_empty : goal.returns-then-not-is_empty
returns-then-not-is_empty c =
    let ws = c.args.workers.now in
    let n = length ws in
    let i = c.loop-i.i in
    let low = mod_below (c.args.w + i) n (omega (arith, c.requires)) in
    sym (found_here (workers_of ws) c.args.w n i (omega (arith, c.loop-i.auto.i)) c.loop-i-test.true c.loop-i.invariant.1
    (some_there ws ((c.args.w + i) % n) _ c.is_empty.result low c.is_empty.ensures c.if-not-is_empty.true))

pub loop-i-preserved : goal.loop-i-preserved
loop-i-preserved c =
    let ws = c.args.workers.now in
    let n = length ws in
    let i = c.loop-i.i in
    let low = mod_below (c.args.w + i) n (omega (arith, c.requires)) in
    let next : i ≡ i + 1 - 1 = omega arith in (
      refl,
      not_here (workers_of ws) c.args.w n i (omega (arith, c.loop-i.auto.i)) c.loop-i-test.true c.loop-i.invariant.1
          (empty_there ws ((c.args.w + i) % n) _ c.is_empty.result low c.is_empty.ensures c.if-not-is_empty.false)
          ∙ ap (λ j. first_with_forks (workers_of ws) (drop j (workers_next c.args.w n))) next,
    )

pub returns : goal.returns
returns c =
    let ws = c.args.workers.now in
    let n = length ws in
    sym (c.loop-i.invariant.1 ∙ ap (first_with_forks (workers_of ws)) (none_after c.args.w n c.loop-i.i (omega (arith, c.loop-i-test.false))))
