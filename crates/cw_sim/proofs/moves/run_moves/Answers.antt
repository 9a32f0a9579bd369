-- Whether the run was spent.
use Rattle.cw_sim.specs.Runs.{simulation_of}
use Rattle.cw_job.specs.Jobs.{job_of_task}
use Rattle.cw_sim.specs.InMemory.{Seen}
use Rattle.cw_sim.proofs.InMemory.Records.{over_same}
use Rattle.cw_sim.proofs.moves.run_moves.Goals as goal

pub returns-in-Ok-close-clause-spent : goal.returns-in-Ok-close-clause-spent
returns-in-Ok-close-clause-spent c =
    let job = job_of_task c.in_ok-simulation.simulation.task in
    let turns = c.new-turns.result in
    let ends = c.in-Ok.ensures in
    let seen : Seen = record { job = job; m = simulation_of job turns.workers turns.schedule.now; there = ends.0 } in
    over_same job (job_of_task c.args.task) turns.workers c.args.workers turns.schedule.now c.args.schedule.now c.is_over-spent.result
    (c.is_over-spent.ensures seen ends.1) c.in_ok-simulation.ensures.job c.new-turns.ensures.workers c.new-turns.ensures.schedule
