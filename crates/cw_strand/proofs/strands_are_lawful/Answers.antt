use Rattle.cw_strand.proofs.Lawful.{lawful}
use Rattle.cw_strand.proofs.strands_are_lawful.Goals as goal

pub returns : goal.returns
returns c = lawful
