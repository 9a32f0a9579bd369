use Rattle.cw_audit.proofs.Settling.Theorem.{states_are_settled}
use Rattle.cw_job.specs.Room.Strands.{strands_of_job}
use Rattle.cw_audit.proofs.states_are_settled.Goals as goal

pub returns : goal.returns
returns c = λ job. states_are_settled (strands_of_job job)
