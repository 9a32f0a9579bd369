use Rattle.cw_tree.proofs.ChainLaws.Chains.{parts_are_chains, each_follows, some_are_chains, beneath_is_end}
use Rattle.cw_tree.proofs.ChainLaws.Change.{chains_grow, chains_close, chains_extend}
use Rattle.cw_tree.proofs.laws.chains_stay.Goals as goal

pub returns : goal.returns
returns c = record { grow = chains_grow; close = chains_close; extend = chains_extend; parts = parts_are_chains; each = each_follows; some = some_are_chains; beneath = beneath_is_end }
