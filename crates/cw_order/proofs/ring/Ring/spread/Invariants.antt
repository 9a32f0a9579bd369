use Rattle.std.proofs.Common.{◌≡◌, ◌<◌, ◌+◌, ◌-◌, ◌*◌, ◌++◌, vec_len}
use Rattle.cw_order.specs.Links.{walk, spread_over}
use Rattle.cw_order.proofs.ring.Ring.spread.Given as goal

abbrev pub invariant-loop-done : goal.invariant-loop-done
invariant-loop-done l = record {
  place : l.at < vec_len l.self.next;
  label : l.label ≡ l.base + l._done * l.gap;
  rest : spread_over (walk l.self.next.items l.at (l.count - l._done)) l.label l.gap l.self.labels.items
      ≡ spread_over (walk l.self.next.items l.first l.count) l.base l.gap l.fn.self.labels.items;
  next : l.self.next.items ≡ l.fn.self.next.items;
  previous : l.self.previous.items ≡ l.fn.self.previous.items;
  room : l.self.room ≡ l.fn.self.room;
  listed : l.self.renumbered.items ++ walk l.self.next.items l.at (l.count - l._done) ≡ l.fn.self.renumbered.items ++ walk l.self.next.items l.first l.count;
  many : vec_len l.self.renumbered ≡ vec_len l.fn.self.renumbered + l._done;
}
