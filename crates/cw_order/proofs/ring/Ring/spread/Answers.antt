use Rattle.std.proofs.Common.{◌≡◌, ◌+◌, ◌-◌, ◌++◌, ◌∷◌, [], set, suc, length, sym, ap, ◌∙◌, arith, rules, append_assoc}
use Rattle.std.proofs.lemmas.List.{length_push}
use Rattle.cw_order.specs.Links.{walk, spread_over}
use Rattle.cw_order.proofs.Spreading.{spread_more}
use Rattle.cw_order.proofs.ring.Ring.spread.Goals as goal

pub loop-done-preserved : goal.loop-done-preserved
loop-done-preserved c =
    let next = c.loop-done.self.next.items in
    let left = c.args.count - (c.loop-done._done + 1) in
    let one : c.args.count - c.loop-done._done ≡ suc left = omega arith in
    let step = spread_more next c.loop-done.self.labels.items c.loop-done.at (c.args.count - c.loop-done._done) c.loop-done.label c.args.gap left one in
    let listed = c.loop-done.self.renumbered.items in
    record {
      place = search rules;
      label = omega (arith, c.loop-done.invariant.label);
      rest = ap (λ at. spread_over (walk next at left) (c.loop-done.label + c.args.gap) c.args.gap (set c.loop-done.self.labels.items c.loop-done.at c.loop-done.label)) c.next-at.ensures.value ∙ (sym step ∙ c.loop-done.invariant.rest);
      next = c.loop-done.invariant.next;
      previous = c.loop-done.invariant.previous;
      room = c.loop-done.invariant.room;
      listed =
          ap (λ xs. xs ++ walk next c.next-at.result left) c.put.ensures.items
          ∙ (append_assoc listed (c.loop-done.at ∷ []) (walk next c.next-at.result left)
          ∙ (ap (λ at. listed ++ c.loop-done.at ∷ walk next at left) c.next-at.ensures.value ∙ (ap (λ n. listed ++ walk next c.loop-done.at n) (sym one) ∙ c.loop-done.invariant.listed)));
      many = omega (arith, c.put.new.list.ok.0, c.loop-done.self.renumbered.ok.0, ap length c.put.ensures.items, length_push listed c.loop-done.at, c.loop-done.invariant.many);
    }
