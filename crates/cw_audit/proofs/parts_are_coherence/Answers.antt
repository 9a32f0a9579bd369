use Rattle.cw_audit.proofs.Coherence.{parts_are_coherence}
use Rattle.cw_audit.proofs.Records.{records_by_parts}
use Rattle.cw_audit.proofs.parts_are_coherence.Goals as goal

pub returns-clause-sheets : goal.returns-clause-sheets
returns-clause-sheets c = parts_are_coherence

pub returns-clause-records : goal.returns-clause-records
returns-clause-records c = records_by_parts
