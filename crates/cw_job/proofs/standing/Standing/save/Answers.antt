use Rattle.cw_job.specs.Room.Saves.{IsSavedOf}
use Rattle.cw_job.specs.Room.Strands.{IsOf, state_of, strands_of_job}
use Rattle.cw_job.proofs.Room.Backs.{saved_of}
use Rattle.cw_job.proofs.standing.Standing.save.Goals as goal

pub returns : goal.returns
unfolding state_of IsOf IsSavedOf strands_of_job
returns c = λ program stands begins. saved_of program c.in_ok-saved.saved c.args.self.now begins stands c.in_ok-saved.ensures
