use Rattle.cw_core.proofs.Events.Kept.{cells, strands}
use Rattle.cw_core.proofs.cores_stand.Goals as goal

pub returns : goal.returns
returns c = record { chains = cells; goes_on = strands }
