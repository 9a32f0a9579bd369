use Rattle.cw_job.specs.Jobs.{job_of_task}
use Rattle.cw_sim.proofs.InMemory.Runs.{IsAt, AreAlong}
use Rattle.cw_sim.proofs.moves.Driver.run.Given as goal

abbrev pub invariant-loop-n : goal.invariant-loop-n
invariant-loop-n l =
    let job = job_of_task l.fn.self.task in
    let workers = l.fn.turns.workers in
    let schedule = l.fn.turns.schedule.now in
    IsAt job workers schedule l.self l.n × AreAlong job workers schedule l.turns l.n
