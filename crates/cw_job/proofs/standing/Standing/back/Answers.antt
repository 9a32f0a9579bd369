use Rattle.cw_job.specs.Room.Strands.{IsOf, state_of}
use Rattle.cw_job.proofs.Room.Backs.{may_go, begin_is, begin_wanting}
use Rattle.cw_job.proofs.standing.Standing.back.Goals as goal

pub back-requires : goal.back-requires
unfolding state_of
back-requires c = may_go c.args.saved.now _ c.requires

pub returns-clause-back : goal.returns-clause-back
unfolding state_of
returns-clause-back c = λ m. begin_is c.args.saved.now _ m c.back.new.self c.back.ensures

pub returns-clause-stands : goal.returns-clause-stands
unfolding state_of IsOf
returns-clause-stands c = λ m. begin_wanting c.args.saved.now _ m c.back.new.self c.back.ensures
