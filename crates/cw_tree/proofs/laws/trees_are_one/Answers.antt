use Rattle.cw_tree.proofs.InOrder.OneTree.{one_tree, one_number, one_list}
use Rattle.cw_tree.proofs.Worked.OneTreeRows.{rows}
use Rattle.cw_tree.proofs.laws.trees_are_one.Goals as goal

pub returns : goal.returns
returns c = record { tree = one_tree; number = one_number; conflicts = one_list; rows = rows }
