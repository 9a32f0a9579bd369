use Rattle.cw_hands.proofs.Laws.Waiting.{together_go_on}
use Rattle.cw_hands.proofs.runs_go_together.Goals as goal

pub returns : goal.returns
returns c d = together_go_on c.R.Ruled.rules
