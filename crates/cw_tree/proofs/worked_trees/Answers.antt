use Rattle.std.proofs.Common.{refl}
use Rattle.std.specs.Fmt.{digits}
use Rattle.cw_tree.proofs.ChainLaws.Rows.{chains}
use Rattle.cw_tree.proofs.worked_trees.Goals as goal

pub returns-clause-texts : goal.returns-clause-texts
unfolding digits
returns-clause-texts c = (refl, refl)

pub returns-clause-chains : goal.returns-clause-chains
returns-clause-chains c = chains
