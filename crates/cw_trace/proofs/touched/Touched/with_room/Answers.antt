use Rattle.std.proofs.Common.{ap, length, arith}
use Rattle.std.proofs.lemmas.List.{length_push}
use Rattle.cw_trace.proofs.Listings.{listed_none}
use Rattle.cw_trace.proofs.touched.Touched.with_room.Goals as goal

pub invariant_of-result : goal.invariant_of-result
invariant_of-result c =
    listed_none (record { room = c.args.room; columns = c.in_ok-columns.columns; places = c.put.new.list }) c.in_ok-columns.ensures.items
    (omega (arith, ap length c.put.ensures.items, length_push c.in_ok-places.places.items 0, ap length c.in_ok-places.ensures.items, c.requires))
    (omega (arith, c.in_ok-columns.ensures.capacity)) (omega (arith, c.in_ok-places.ensures.capacity, c.put.ensures.capacity))
