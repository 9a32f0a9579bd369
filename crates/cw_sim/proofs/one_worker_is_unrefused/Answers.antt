use Rattle.cw_sim.proofs.OneWorker.Events.{unsplit_unrefused}
use Rattle.cw_sim.proofs.OneWorker.Records.{one_unrefused}
use Rattle.cw_sim.proofs.OneWorker.Splits.{one_splits_none}
use Rattle.cw_sim.proofs.one_worker_is_unrefused.Goals as goal

pub returns : goal.returns
returns g c = record { splits = λ s. one_splits_none s; unsplit = unsplit_unrefused; unrefused = λ s. one_unrefused s }
