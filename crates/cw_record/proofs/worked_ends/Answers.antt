use Rattle.cw_record.proofs.WorkedEnds.Ends.{ends}
use Rattle.cw_record.proofs.worked_ends.Goals as goal

pub returns : goal.returns
returns c = ends
