use Rattle.cw_tree.proofs.ChainLaws.Stacks.{stacks_grow, stacks_close, fronts_of_stacks, stacks_tell}
use Rattle.cw_tree.proofs.laws.stacks_stay.Goals as goal

pub returns : goal.returns
returns c = record { grow = stacks_grow; close = stacks_close; fronts = fronts_of_stacks; tell = stacks_tell }
