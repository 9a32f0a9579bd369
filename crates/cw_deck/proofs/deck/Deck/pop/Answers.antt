use Rattle.cw_deck.proofs.Deeds.Moves.{pops, finds_none}
use Rattle.cw_deck.proofs.deck.Deck.pop.Goals as goal

pub pop_by-requires-clause-pops : goal.pop_by-requires-clause-pops
pop_by-requires-clause-pops g c = pops _ _

pub pop_by-requires-clause-empty : goal.pop_by-requires-clause-empty
pop_by-requires-clause-empty g c = finds_none _ _
