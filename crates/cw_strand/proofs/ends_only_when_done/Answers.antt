use Rattle.cw_strand.proofs.Lawful.{ends_only_when_done}
use Rattle.cw_strand.proofs.ends_only_when_done.Goals as goal

pub returns-clause-ends : goal.returns-clause-ends
returns-clause-ends c = ends_only_when_done
