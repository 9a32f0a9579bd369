use Rattle.cw_trace.proofs.Keeps.TierLaws.{reading, goes_on_beneath, start, leaf, begin, close, join}
use Rattle.cw_trace.proofs.Keeps.WholeRuns.{suspended}
use Rattle.cw_trace.proofs.tier_laws.Goals as goal

pub returns-clause-reading : goal.returns-clause-reading
returns-clause-reading c = reading

pub returns-clause-goes_on : goal.returns-clause-goes_on
returns-clause-goes_on c = goes_on_beneath

pub returns-clause-start : goal.returns-clause-start
returns-clause-start c = start

pub returns-clause-leaf : goal.returns-clause-leaf
returns-clause-leaf c = leaf

pub returns-clause-begin : goal.returns-clause-begin
returns-clause-begin c = begin

pub returns-clause-close : goal.returns-clause-close
returns-clause-close c = close

pub returns-clause-join : goal.returns-clause-join
returns-clause-join c = join

pub returns-clause-suspended : goal.returns-clause-suspended
returns-clause-suspended c = suspended
