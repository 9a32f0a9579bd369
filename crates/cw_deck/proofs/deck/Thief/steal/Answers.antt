use Rattle.cw_deck.proofs.Deeds.Moves.{takes}
use Rattle.cw_deck.proofs.deck.Thief.steal.Goals as goal

pub steal_by-requires-clause-takes : goal.steal_by-requires-clause-takes
steal_by-requires-clause-takes g c = takes _ _
