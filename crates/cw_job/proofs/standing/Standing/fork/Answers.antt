use Rattle.std.proofs.Common.{◌∙◌, ap}
use Rattle.cw_strand.specs.declared.want.Given.TheVariants.{Nothing}
use Rattle.cw_strand.specs.Coded.{runs}
use Rattle.cw_strand.specs.Running.{stand}
use Rattle.cw_job.specs.Room.Strands.{state_of, strands_of_job}
use Rattle.cw_job.proofs.Room.Nexts.{next_in}
use Rattle.cw_job.proofs.standing.Standing.fork.Goals as goal

pub returns-clause-left : goal.returns-clause-left
unfolding strands_of_job state_of
returns-clause-left c = λ job same.
    next_in job c.args.program.now c.in_ok-strand.strand Nothing c.in_ok-want.want c.next.new.self same c.in_ok-want.ensures.next
    ∙ ap (λ s. stand (runs job.program.code job.program.main job.words job.limits) s) c.in_ok-strand.ensures.left
