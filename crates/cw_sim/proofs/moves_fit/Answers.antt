use Rattle.cw_sim.proofs.Runs.Closing.{moves_fit}
use Rattle.cw_sim.proofs.moves_fit.Goals as goal

pub returns : goal.returns
returns g c = λ s. moves_fit s
