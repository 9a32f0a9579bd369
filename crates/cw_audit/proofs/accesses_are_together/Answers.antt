use Rattle.cw_audit.proofs.Together.{accesses_together, written_by_pairs}
use Rattle.cw_audit.proofs.accesses_are_together.Goals as goal

pub returns-clause-together : goal.returns-clause-together
returns-clause-together c = accesses_together

pub returns-clause-written : goal.returns-clause-written
returns-clause-written c = written_by_pairs
