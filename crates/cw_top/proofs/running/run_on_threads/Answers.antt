use Rattle.cw_top.proofs.CommandRuns.{of_threads}
use Rattle.cw_top.proofs.running.run_on_threads.Goals as goal

pub returns-clause-done : goal.returns-clause-done
returns-clause-done g c = of_threads c.args.workers c.run.result c.run.ensures.one c.run.ensures.several c.run.ensures.moves
