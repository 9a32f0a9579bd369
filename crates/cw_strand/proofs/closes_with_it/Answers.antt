use Rattle.cw_strand.proofs.Pasts.{closes}
use Rattle.cw_strand.proofs.closes_with_it.Goals as goal

pub returns : goal.returns
returns g c = λ s t same law own a way. closes s t same law own a way
