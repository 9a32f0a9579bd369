use Rattle.std.proofs.Common.{◌≡◌, ◌∙◌, subst, Option}
use Rattle.cw_strand.specs.declared.want.Want.TheVariants as want
use Rattle.cw_job.specs.declared.standing.Standing.{Standing}
use Rattle.cw_job.specs.Jobs.{bare_job, job_of_task}
use Rattle.cw_job.specs.Room.Strands.{state_of}
use Rattle.cw_job.proofs.Room.Wants.{same_want}
use Rattle.cw_audit.specs.Settled.{IsSome}
use Rattle.cw_audit.specs.Walkers.{law_of_told, state_there}
use Rattle.cw_audit.proofs.strands.walker.Walker.fork.Goals as goal

pub fork-requires-clause-fork : goal.fork-requires-clause-fork
fork-requires-clause-fork c =
    let told = c.args.told.now in
    let P : Option Standing → Type 0 = λ o. IsSome (λ a. (law_of_told told).want a ≡ want.Fork) (state_there o) in
    same_want (bare_job told.task.program.now) (job_of_task told.task) (state_of c.in-Some.strand) ∙ subst P c.in-Some.is c.requires.wants
