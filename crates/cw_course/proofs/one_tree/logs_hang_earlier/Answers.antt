use Rattle.cw_course.proofs.TreeLogs.Earlier.{earlier_follows, earlier_are_together}
use Rattle.cw_course.proofs.one_tree.logs_hang_earlier.Goals as goal

pub returns : goal.returns
returns c = record { earlier = earlier_follows; together = earlier_are_together }
