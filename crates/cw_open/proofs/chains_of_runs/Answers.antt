use Rattle.cw_open.proofs.Runs.LawsHold.{chains, ended}
use Rattle.cw_open.proofs.chains_of_runs.Goals as goal

pub returns : goal.returns
returns c = record { chains = chains; ended = ended }
