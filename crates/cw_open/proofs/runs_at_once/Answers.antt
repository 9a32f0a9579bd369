use Rattle.cw_open.proofs.Runs.LawsHold.{at_any, are_told}
use Rattle.cw_open.proofs.runs_at_once.Goals as goal

pub returns : goal.returns
returns c = record { runs = at_any; told = are_told }
