use Rattle.cw_hands.proofs.Laws.Columns.{columns_stay, gaps_stay, shown_words_stay}
use Rattle.cw_hands.proofs.columns_stay.Goals as goal

pub returns : goal.returns
returns c = record { columns = columns_stay; gaps = gaps_stay; words = shown_words_stay }
