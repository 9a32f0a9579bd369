-- The worker is as it was, without the fork that waits last in it.
use Rattle.std.proofs.Common.{◌<◌, length, ap, sym, ◌∙◌, subst, arith}
use Rattle.std.specs.Prelude.{not}
use Rattle.cw_sim.specs.WorkersInMemory.{IsLast, without_waiting, worker_of}
use Rattle.cw_sim.proofs.InMemory.Workers.{changed_in, worker_there, popped, last_inline, last_deque, some_in_deque}
use Rattle.cw_sim.proofs.worker.take_newest.Goals as goal

pub returns-then-is_none : goal.returns-then-is_none
returns-then-is_none c =
    let ws = c.args.workers.now in
    let old = c.index_mut-worker.result.now in
    let low : c.args.w < length ws.items = omega (arith, c.requires.there, ws.ok.0) in
    let is = ap worker_of c.index_mut-worker.ensures.value ∙ sym (worker_there ws.items c.args.w old low) in
    let last : IsLast (worker_of old) c.args._fork = subst (λ x. IsLast x c.args._fork) (sym is) c.requires.last in
    let none = (popped c.pop.result old.inline.items c.pop.new.self.items c.pop.ensures.items (λ h. c.pop.ensures.variant.1 (omega (arith, h, old.inline.ok.0)))).1 (c.is_none.ensures ∙ ap not c.if-is_none.true) in
    let some = some_in_deque (worker_of old) c.args._fork last none.0 in
    let out = c.pop_back.ensures.variant.1 (omega (arith, some, old.deque.ok.0)) in
    let w = (popped c.pop_back.result old.deque.items c.pop_back.new.self.items c.pop_back.ensures.items (λ h. out)).0 out in
    changed_in ws.items c.args.w old (record old { deque = c.pop_back.new.self; inline = c.pop.new.self }) low c.index_mut-worker.ensures.value (without_waiting c.args._fork)
    (ap (λ is. record (worker_of old) { deque = c.pop_back.new.self.items; inline = is }) (none.1 ∙ sym none.0) ∙ sym (last_deque (worker_of old) c.args._fork w.0 c.pop_back.new.self.items last none.0 w.1))

pub returns-else-is_none : goal.returns-else-is_none
returns-else-is_none c =
    let ws = c.args.workers.now in
    let old = c.index_mut-worker.result.now in
    let low : c.args.w < length ws.items = omega (arith, c.requires.there, ws.ok.0) in
    let is = ap worker_of c.index_mut-worker.ensures.value ∙ sym (worker_there ws.items c.args.w old low) in
    let last : IsLast (worker_of old) c.args._fork = subst (λ x. IsLast x c.args._fork) (sym is) c.requires.last in
    let w = (popped c.pop.result old.inline.items c.pop.new.self.items c.pop.ensures.items (λ h. c.pop.ensures.variant.1 (omega (arith, h, old.inline.ok.0)))).0 (c.is_none.ensures ∙ ap not c.if-is_none.false) in
    changed_in ws.items c.args.w old (record old { inline = c.pop.new.self }) low c.index_mut-worker.ensures.value (without_waiting c.args._fork)
    (sym (last_inline (worker_of old) c.args._fork w.0 c.pop.new.self.items last w.1))
