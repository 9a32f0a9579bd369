use Rattle.cw_record.proofs.ClosedRun.RenamedStrands.{strands_stay}
use Rattle.cw_record.proofs.strands_stay.Goals as goal

pub returns : goal.returns
returns g c = λ s t before after reached w q. strands_stay s t before after reached w q
