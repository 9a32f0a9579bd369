use Rattle.cw_core.proofs.Laws.Alike.{alike_after}
use Rattle.cw_core.proofs.Laws.Splits.{splits, answers, lists}
use Rattle.cw_core.proofs.splits_change_no_answer.Goals as goal

pub returns : goal.returns
returns c = record { splits = splits; answers = answers; stay = alike_after; lists = lists }
