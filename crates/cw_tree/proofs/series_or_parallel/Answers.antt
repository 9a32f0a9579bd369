use Rattle.cw_tree.proofs.Walks.Parting.{series_or_parallel}
use Rattle.cw_tree.proofs.series_or_parallel.Goals as goal

pub returns : goal.returns
returns c = series_or_parallel
