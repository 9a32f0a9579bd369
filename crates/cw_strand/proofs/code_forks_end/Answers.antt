use Rattle.cw_strand.specs.Coded.{runs}
use Rattle.cw_strand.proofs.Settling.{deep}
use Rattle.cw_strand.proofs.Bounding.{bounded}
use Rattle.cw_strand.proofs.code_forks_end.Goals as goal

pub returns : goal.returns
returns c = λ code main words limits sound. deep (runs code main words limits) (bounded code main words limits sound)
