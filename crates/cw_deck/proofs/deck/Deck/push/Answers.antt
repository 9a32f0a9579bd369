use Rattle.cw_deck.proofs.Deeds.Moves.{pushes}
use Rattle.cw_deck.proofs.deck.Deck.push.Goals as goal

pub push_as-requires-clause-pushes : goal.push_as-requires-clause-pushes
push_as-requires-clause-pushes g c = pushes _ _ _
