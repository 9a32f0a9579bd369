use Rattle.cw_sim.proofs.Runs.Closing.{runs_closed}
use Rattle.cw_sim.proofs.runs_are_closed.Goals as goal

pub returns : goal.returns
returns g c = λ s. runs_closed s
