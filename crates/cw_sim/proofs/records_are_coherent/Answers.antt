use Rattle.cw_sim.proofs.Runs.Closing.{records_coherent}
use Rattle.cw_sim.proofs.records_are_coherent.Goals as goal

pub returns : goal.returns
returns c = records_coherent
