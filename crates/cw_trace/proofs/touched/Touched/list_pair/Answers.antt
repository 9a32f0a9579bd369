use Rattle.std.proofs.Common.{ap, length, arith}
use Rattle.std.proofs.lemmas.List.{length_push}
use Rattle.cw_trace.proofs.Listings.{listed_none}
use Rattle.cw_trace.proofs.touched.Touched.list_pair.Goals as goal

pub invariant_of-self : goal.invariant_of-self
invariant_of-self c =
    let a = c.self.inside in
    let k = c.self.invariant in
    let once = ap length c.put.ensures.items in
    let twice = ap length c.put-2.ensures.items in
    listed_none (record { room = a.room; columns = c.clear.new.self; places = c.put-2.new.list }) c.clear.ensures.items
    (omega (arith, once, twice, length_push a.places.items 0, length_push c.put.new.list.items 0, c.requires.few, ap (λ s. s.used) c.self.view_is, ap (λ s. s.room) c.self.view_is))
    (omega (arith, k.columns_room, c.clear.ensures.capacity)) (omega (arith, k.places_room, c.put.ensures.capacity, c.put-2.ensures.capacity))
