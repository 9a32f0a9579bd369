use Rattle.std.proofs.Common.{arith}
use Rattle.cw_trace.proofs.Listings.{listed_none}
use Rattle.cw_trace.proofs.touched.Touched.list_change.Goals as goal

pub invariant_of-self : goal.invariant_of-self
invariant_of-self c =
    let a = c.self.inside in
    let k = c.self.invariant in
    listed_none (record { room = a.room; columns = c.clear.new.self; places = a.places }) c.clear.ensures.items k.fits (omega (arith, k.columns_room, c.clear.ensures.capacity)) k.places_room
