use Rattle.cw_open.proofs.Laws.CancelStates.{cancels_right}
use Rattle.cw_open.proofs.Laws.OwnAccesses.{own_free}
use Rattle.cw_open.proofs.cancels_of_runs.Goals as goal

pub returns : goal.returns
returns c = record { right = cancels_right; own = own_free }
