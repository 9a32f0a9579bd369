use Rattle.cw_job.specs.Room.Strands.{strands_of_job}
use Rattle.cw_serial.proofs.Deep.{goes_nowhere, goes_forking}
use Rattle.cw_job.proofs.Room.Lawful.{deep_of}
use Rattle.cw_serial.proofs.forks_are_made.Goals as goal

pub returns : goal.returns
returns c = λ job k a. (goes_nowhere (strands_of_job job) k a, goes_forking (strands_of_job job) (deep_of job) k a)
