use Rattle.cw_sim.proofs.Laws.Opens.{opens}
use Rattle.cw_sim.proofs.opens_well.Goals as goal

pub returns : goal.returns
returns g c = λ s. opens s
