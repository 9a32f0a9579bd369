use Rattle.cw_text.proofs.Older.{stays_as_it_was}
use Rattle.cw_text.proofs.older_texts_stay.Goals as goal

pub returns : goal.returns
returns c = stays_as_it_was
