use Rattle.cw_strand.specs.Coded.{runs}
use Rattle.cw_strand.proofs.Settling.{settles}
use Rattle.cw_strand.proofs.Bounding.{bounded}
use Rattle.cw_strand.proofs.code_work_ends.Goals as goal

pub returns : goal.returns
returns c = λ code main words limits sound. settles (runs code main words limits) (bounded code main words limits sound).on
