use Rattle.cw_hands.proofs.Laws.Heard.{words_tell, columns_tell}
use Rattle.cw_hands.proofs.words_tell.Goals as goal

pub returns : goal.returns
returns c = record { words = words_tell; columns = columns_tell }
