-- Strands in memory that may still have to go on to their wants.
use Rattle.std.specs.Prelude.{◌≡◌, false, if◌then◌else◌}
use Rattle.cw_code.specs.declared.program.Program.{Program}
use Rattle.cw_strand.specs.declared.want.Given.TheVariants.{Nothing}
use Rattle.cw_job.specs.declared.runner.Runner.{Runner}
use Rattle.cw_job.specs.Jobs.{bare_job}
use Rattle.cw_job.specs.Room.Strands.{StrandState, IsOf, state_of, strands_of_job}

-- where the strand is: at its want, or where it was when that want was answered, if it is on its way to the next one
unfoldable pub place_of : Runner → StrandState
place_of r = state_of r.standing

-- the strand of a program at its next want, to which it goes on by itself if it is not there
unfoldable pub state_in : Program → Runner → StrandState
state_in program r = if r.is_on_way then (strands_of_job (bare_job program)).answer (state_of r.standing) Nothing else state_of r.standing

-- the strand is one of the program
unfoldable pub IsRunner : Program → Runner → Type 0
IsRunner program r = IsOf program r.standing

-- the strand is at its want
unfoldable pub IsAt : Runner → Type 0
IsAt r = r.is_on_way ≡ false
