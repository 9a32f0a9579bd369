use Rattle.cw_course.proofs.TreeLogs.Given.{logs_make_one_tree, closings_give_one_tree}
use Rattle.cw_course.proofs.one_tree.logs_make_one_tree.Goals as goal

pub returns-clause-tree : goal.returns-clause-tree
returns-clause-tree c = λ t cs all nss w tree a. logs_make_one_tree t cs all nss w tree a

pub returns-clause-closed : goal.returns-clause-closed
returns-clause-closed c = λ t cs all nss stop closed w sound a p. closings_give_one_tree t cs all nss stop closed w sound a p
