-- The worker is as it was, without the first of its deque.
use Rattle.std.proofs.Common.{◌≡◌, ◌<◌, ◌∷◌, ◌++◌, length, get_or, ap, sym, ◌∙◌, arith, Some}
use Rattle.std.specs.Option.{option_to_list}
use Rattle.cw_sim.specs.WorkersInMemory.{worker_of}
use Rattle.cw_sim.proofs.InMemory.Workers.{changed_in, worker_there}
use Rattle.cw_sim.proofs.worker.take_oldest.Goals as goal

pub returns : goal.returns
returns c f fs e =
    let ws = c.args.workers.now in
    let old = c.index_mut-worker.result.now in
    let low : c.args.w < length ws.items = omega (arith, c.requires, ws.ok.0) in
    let is = ap worker_of c.index_mut-worker.ensures.value ∙ sym (worker_there ws.items c.args.w old low) in
    let had : old.deque.items ≡ f ∷ fs = ap (λ x. x.deque) is ∙ e in
    let some : 0 < old.deque.len = omega (arith, old.deque.ok.0, ap length had) in
    let taken : c.pop_front.result ≡ Some f = c.pop_front.ensures.value 0 some ∙ ap (λ xs. Some (get_or xs 0 0)) had in
    let all : f ∷ fs ≡ f ∷ c.pop_front.new.self.items = sym had ∙ c.pop_front.ensures.items ∙ ap (λ r. option_to_list r ++ c.pop_front.new.self.items) taken in
    let rest : c.pop_front.new.self.items ≡ fs = cc in
    (taken, changed_in ws.items c.args.w old (record old { deque = c.pop_front.new.self }) low c.index_mut-worker.ensures.value (λ x. record x { deque = fs }) (ap (λ ds. record (worker_of old) { deque = ds }) rest))
