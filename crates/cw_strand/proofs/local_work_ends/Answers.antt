use Rattle.cw_strand.specs.Meaning.{runs}
use Rattle.cw_strand.proofs.LocalWork.{bounded}
use Rattle.cw_strand.proofs.Settling.{settles}
use Rattle.cw_strand.proofs.local_work_ends.Goals as goal

pub returns : goal.returns
returns c ds words limits = settles (runs ds words limits) (bounded ds words limits).on
