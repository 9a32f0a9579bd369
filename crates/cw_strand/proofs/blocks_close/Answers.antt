use Rattle.cw_strand.proofs.Lawful.{lawful}
use Rattle.cw_strand.proofs.blocks_close.Goals as goal

pub returns : goal.returns
returns c ds words limits faultless = (lawful ds words limits faultless).closes
