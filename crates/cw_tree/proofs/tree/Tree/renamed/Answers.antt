use Rattle.std.proofs.Common.{arith}
use Rattle.cw_tree.proofs.InOrder.Renumbered.{number_is, past_is}
use Rattle.cw_tree.proofs.tree.Tree.renamed.Goals as goal

pub returns-then-place-numbers : goal.returns-then-place-numbers
returns-then-place-numbers c = number_is c.args.self.now c.nodes.ensures.numbered c.args.numbers.now c.args.n c.requires (omega arith)

pub returns-else-place-numbers : goal.returns-else-place-numbers
returns-else-place-numbers c = past_is c.args.self.now c.nodes.ensures.numbered c.args.numbers.now c.args.n c.requires (omega arith)
