use Rattle.cw_audit.proofs.OverSource.{sound_over_source}
use Rattle.cw_audit.proofs.sound_over_source.Goals as goal

pub returns : goal.returns
returns c = sound_over_source
