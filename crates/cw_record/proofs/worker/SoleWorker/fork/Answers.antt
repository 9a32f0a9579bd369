use Rattle.std.proofs.Common.{◌∙◌}
use Rattle.cw_job.specs.Jobs.{bare_job, job_of_task}
use Rattle.cw_job.specs.Room.Strands.{state_of}
use Rattle.cw_job.proofs.Room.Wants.{same_want}
use Rattle.cw_record.proofs.worker.SoleWorker.fork.Goals as goal

pub fork-requires-clause-fork : goal.fork-requires-clause-fork
fork-requires-clause-fork c =
    let self = c.args.self.now in
    same_want (bare_job self.task.program.now) (job_of_task self.task) (state_of self.strand) ∙ c.requires.wanted
