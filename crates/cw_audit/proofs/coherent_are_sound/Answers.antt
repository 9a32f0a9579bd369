use Rattle.cw_audit.proofs.Order.{sound_is_coherence}
use Rattle.cw_audit.proofs.Records.{coherent_are_sound}
use Rattle.cw_audit.proofs.coherent_are_sound.Goals as goal

pub returns-clause-sheets : goal.returns-clause-sheets
returns-clause-sheets c = sound_is_coherence

pub returns-clause-records : goal.returns-clause-records
returns-clause-records c = coherent_are_sound
