use Rattle.std.proofs.Common.{refl}
use Rattle.cw_tree.proofs.VictimsAt.At.{victims_at, victims_grow}
use Rattle.cw_tree.proofs.laws.victims_at_places.Goals as goal

pub returns : goal.returns
returns c = record { place = victims_at; grow = victims_grow; rows = (refl, refl, refl, refl, refl, refl) }
