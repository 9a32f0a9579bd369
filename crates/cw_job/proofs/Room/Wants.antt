-- What strands want is the same in each job.
use Rattle.std.proofs.Common.{◌≡◌, refl}
use Rattle.cw_job.specs.Jobs.{Job}
use Rattle.cw_job.specs.Room.Strands.{StrandState, strands_of_job}

pub same_want : (job other : Job) (a : StrandState) → (strands_of_job job).want a ≡ (strands_of_job other).want a
unfolding strands_of_job
same_want job other a = refl
