use Rattle.cw_trace.proofs.ManyHands.Loads.{one_word_decides, last_load_decides, no_load_decides}
use Rattle.cw_trace.proofs.hands.loads_decide.Goals as goal

pub returns : goal.returns
returns c = record { one_word = one_word_decides; last_load = last_load_decides; no_load = no_load_decides }
