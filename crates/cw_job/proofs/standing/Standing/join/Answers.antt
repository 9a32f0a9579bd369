use Rattle.std.proofs.Common.{◌∙◌, ap}
use Rattle.cw_strand.specs.declared.want.Given.TheVariants.{Nothing}
use Rattle.cw_strand.specs.Coded.{runs}
use Rattle.cw_strand.specs.Running.{stand}
use Rattle.cw_job.specs.Room.Strands.{IsOf, state_of, strands_of_job}
use Rattle.cw_job.proofs.Room.Nexts.{next_in}
use Rattle.cw_job.proofs.standing.Standing.join.Goals as goal

pub returns-clause-joined : goal.returns-clause-joined
unfolding strands_of_job state_of
returns-clause-joined c = λ job same.
    next_in job c.args.program.now c.joined.new.self Nothing c.in_ok-self.field-0 c.next.new.self same c.in_ok-self.ensures.next
    ∙ ap (λ s. stand (runs job.program.code job.program.main job.words job.limits) s) c.joined.ensures.joined

pub next-requires : goal.next-requires
unfolding IsOf
next-requires c = c.joined.ensures.stands c.args.program.now.code c.requires.stands
