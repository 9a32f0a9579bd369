use Rattle.cw_tree.proofs.InOrder.Renumbered.{node_is}
use Rattle.cw_tree.proofs.tree.Tree.renamed_node.Goals as goal

pub returns : goal.returns
returns c = node_is c.args.self.now c.args.n c.node-node.result.now c.in_ok-try_clone.field-0 c.renamed.result c.node-node.ensures c.in_ok-try_clone.ensures c.renamed.ensures
