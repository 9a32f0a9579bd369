use Rattle.cw_strand.specs.Meaning.{runs}
use Rattle.cw_strand.proofs.LocalWork.{bounded}
use Rattle.cw_strand.proofs.Settling.{deep}
use Rattle.cw_strand.proofs.forks_end.Goals as goal

pub returns : goal.returns
returns c ds words limits = deep (runs ds words limits) (bounded ds words limits)
