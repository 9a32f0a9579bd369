use Rattle.cw_course.proofs.TreeLogs.Worked as worked
use Rattle.cw_course.proofs.one_tree.worked_tree_logs.Goals as goal

pub returns : goal.returns
returns c = worked.worked_tree_logs
