use Rattle.cw_job.specs.Room.Runners.{place_of, state_in}
use Rattle.cw_job.proofs.runner.Runner.back.Goals as goal

pub returns-clause-back : goal.returns-clause-back
unfolding place_of state_in
returns-clause-back c = λ m program. c.back.ensures.back m
