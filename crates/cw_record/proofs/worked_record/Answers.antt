use Rattle.cw_record.proofs.WorkedRecord.Record.{coherent}
use Rattle.cw_record.proofs.worked_record.Goals as goal

pub returns : goal.returns
returns c = record { coherent = coherent }
