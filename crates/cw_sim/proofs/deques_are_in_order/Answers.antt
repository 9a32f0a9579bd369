use Rattle.cw_sim.proofs.Laws.Deques.{none_early, are_there}
use Rattle.cw_sim.proofs.deques_are_in_order.Goals as goal

pub returns : goal.returns
returns g c = record { oldest = λ s. none_early s; newest = λ s. are_there s }
