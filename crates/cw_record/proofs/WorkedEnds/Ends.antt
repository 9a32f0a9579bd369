-- Small records that came to each end.
use Rattle.cw_record.specs.WorkedEnds.{Ends}
use Rattle.cw_record.proofs.WorkedRecord.Scripts.{deep}
use Rattle.cw_record.proofs.WorkedEnds.Fault.{at_fault}
use Rattle.cw_record.proofs.WorkedEnds.Victim.{at_victim}
use Rattle.cw_record.proofs.WorkedEnds.Access.{at_access}
use Rattle.cw_record.proofs.WorkedEnds.Moves.{at_moves}

pub ends : Ends
ends = record { deep = deep; fault = at_fault; victim = at_victim; access = at_access; moves = at_moves }
