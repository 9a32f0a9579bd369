use Rattle.cw_trace.proofs.ManyHands.Differ.{hands_differ, words_stay, nodes_apart}
use Rattle.cw_trace.proofs.hands.hands_differ.Goals as goal

pub returns : goal.returns
returns c = record { differ = hands_differ; words = words_stay; nodes = nodes_apart }
