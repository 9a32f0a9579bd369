use Rattle.cw_trace.proofs.Keeps.WholeRuns.{each_run_stands, each_run_goes_on}
use Rattle.cw_trace.proofs.tier_runs.Goals as goal

pub returns-clause-stands : goal.returns-clause-stands
returns-clause-stands c = each_run_stands

pub returns-clause-goes_on : goal.returns-clause-goes_on
returns-clause-goes_on c = each_run_goes_on
