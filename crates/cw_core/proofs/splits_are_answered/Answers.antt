use Rattle.cw_core.proofs.Laws.EarlySplits.{answered}
use Rattle.cw_core.proofs.splits_are_answered.Goals as goal

pub returns : goal.returns
returns c = record { early = answered }
