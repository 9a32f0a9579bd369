use Rattle.cw_open.proofs.WorkedTimes.Late.{refused_late}
use Rattle.cw_open.proofs.WorkedTimes.Early.{drawn_early}
use Rattle.cw_open.proofs.worked_times.Goals as goal

pub returns : goal.returns
returns c = record { late = refused_late; early = drawn_early }
