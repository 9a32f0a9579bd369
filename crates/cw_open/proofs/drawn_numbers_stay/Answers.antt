use Rattle.cw_open.proofs.Hands.Drawn.{next_stamps_stay, drawn_stay, end_stamps_stay}
use Rattle.cw_open.proofs.drawn_numbers_stay.Goals as goal

pub returns : goal.returns
returns c = record { next = next_stamps_stay; drawn = drawn_stay; end = end_stamps_stay }
