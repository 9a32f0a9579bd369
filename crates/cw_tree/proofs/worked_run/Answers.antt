use Rattle.cw_tree.proofs.Worked.KeptRuns.{holds, stops, breaks}
use Rattle.cw_tree.proofs.Worked.GivenUp.{given}
use Rattle.cw_tree.proofs.worked_run.Goals as goal

pub returns : goal.returns
returns c = record { holds = holds; stops = stops; breaks = breaks; given_up = given }
