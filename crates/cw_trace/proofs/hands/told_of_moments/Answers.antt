use Rattle.cw_trace.proofs.ManyHands.Loads.{moment_decides}
use Rattle.cw_trace.proofs.hands.told_of_moments.Goals as goal

pub returns : goal.returns
returns g c = λ columns words last asker v is h. moment_decides columns words _ is last asker v h
