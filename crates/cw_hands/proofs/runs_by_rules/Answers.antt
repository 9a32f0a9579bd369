use Rattle.cw_hands.proofs.Laws.Runs.{together_at_any_time}
use Rattle.cw_hands.proofs.runs_by_rules.Goals as goal

pub returns : goal.returns
returns c d = together_at_any_time c.R.Ruled.rules
