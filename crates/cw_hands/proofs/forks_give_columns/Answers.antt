use Rattle.cw_hands.proofs.Laws.NewColumns.{forks_give_columns}
use Rattle.cw_hands.proofs.forks_give_columns.Goals as goal

pub returns : goal.returns
returns c = forks_give_columns
