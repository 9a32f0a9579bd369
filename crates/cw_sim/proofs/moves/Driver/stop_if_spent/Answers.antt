-- Where no budget is spent, all is as it was.
use Rattle.std.proofs.Common.{sym, ◌∙◌}
use Rattle.cw_sim.proofs.InMemory.Still.{unspent_stands}
use Rattle.cw_sim.proofs.moves.Driver.stop_if_spent.Goals as goal

pub returns-in-None : goal.returns-in-None
returns-in-None c = λ z old. unspent_stands c.args.self.now z old (sym c.spent.ensures ∙ c.in-None.is)
