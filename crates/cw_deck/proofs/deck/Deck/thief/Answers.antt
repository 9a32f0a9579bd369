use Rattle.cw_deck.proofs.Deeds.Moves.{forks}
use Rattle.cw_deck.proofs.deck.Deck.thief.Goals as goal

pub another-pass-requires : goal.another-pass-requires
another-pass-requires g c = forks _ _
