use Rattle.cw_record.proofs.ClosedRun.Runs.{coherent_end}
use Rattle.cw_record.proofs.closed_runs.Goals as goal

pub returns : goal.returns
returns c = λ s first budget m kept h spent memory outputs w run mem. coherent_end s first budget m kept memory outputs w mem h spent run
