use Rattle.cw_open.proofs.Hands.Met.{conflicts_are_told}
use Rattle.cw_open.proofs.conflicts_are_told.Goals as goal

pub returns : goal.returns
returns c = record { told = conflicts_are_told }
