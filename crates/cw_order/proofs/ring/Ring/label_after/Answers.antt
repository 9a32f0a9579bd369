use Rattle.std.proofs.Common.{sym, subst, arith}
use Rattle.cw_order.specs.Ring.{IsRing, elements_of}
use Rattle.cw_order.proofs.Rooms.{gap_above}
use Rattle.cw_order.proofs.ring.Ring.label_after.Goals as goal
use Rattle.cw_order.proofs.ring.Ring.label_after.Goals.{then-gap_after-lt2, else-gap_after-lt2}

pub gap_after-requires-clause-rises : goal.gap_after-requires-clause-rises
gap_after-requires-clause-rises c =
    let less = gap_above c.args.self.now (elements_of c.args.self.now c.args.count) c.args.at c.requires.ring c.requires.there in
    omega (arith, less)

pub returns-clause-ring : goal.returns-clause-ring
returns-clause-ring c =
    let xs = elements_of c.args.self.now c.args.count in
    let ring = c.requires.ring in
    elim c.if-gap_after-lt2.branch [
      | then-gap_after-lt2 w ↦ subst (λ r. IsRing r xs) (sym w.self-is) w.make_room.ensures.ring
      | else-gap_after-lt2 w ↦ subst (λ r. IsRing r xs) (sym w.self-is) (record { linked = ring.linked; rising = ring.rising; apart = ring.apart })
    ]
