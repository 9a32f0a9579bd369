use Rattle.std.proofs.Common.{refl}
use Rattle.cw_gen.proofs.worked_loads.Goals as goal

pub returns : goal.returns
returns c = record { one = refl; two = refl; counts = refl; sizes = refl }
