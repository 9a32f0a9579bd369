use Rattle.cw_record.proofs.WorkedClosed.Late.{closed_late}
use Rattle.cw_record.proofs.WorkedClosed.Early.{closed_early}
use Rattle.cw_record.proofs.worked_closed_runs.Goals as goal

pub returns : goal.returns
returns c = record { late = closed_late; early = closed_early }
