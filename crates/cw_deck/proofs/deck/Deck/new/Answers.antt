use Rattle.cw_deck.proofs.Deeds.Moves.{begins}
use Rattle.cw_deck.proofs.deck.Deck.new.Goals as goal

pub lifo_as-requires : goal.lifo_as-requires
lifo_as-requires g c = begins
