use Rattle.cw_pool.proofs.Starts.Beginning.{main_begins}
use Rattle.cw_pool.proofs.works.main_strand.Goals as goal

pub invariant_of-result : goal.invariant_of-result
invariant_of-result g c = main_begins _ _ _ _ _ c.requires.run c.requires.root c.requires.start c.new.ensures.items
