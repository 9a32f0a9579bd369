use Rattle.cw_pool.proofs.Tasks.Worked.{goes_untold, root_worked}
use Rattle.cw_pool.proofs.last.finish_run.Goals as goal

pub invariant_of-last : goal.invariant_of-last
invariant_of-last g c = (root_worked _ _ _ _ _ _ _ c.requires.task c.requires.end c.requires.alone c.requires.root, λ goes. goes_untold _ _ _ _ _ _ _ c.requires.task (c.is_going-is_whole.ensures goes))
