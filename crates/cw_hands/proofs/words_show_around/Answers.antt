use Rattle.cw_hands.proofs.Laws.Shown.{words_show_around}
use Rattle.cw_hands.proofs.words_show_around.Goals as goal

pub returns : goal.returns
returns c = words_show_around
