-- The strands of what is run, over the code of its program, and what those in memory mean. Outside this room all
-- contracts and proofs take the law of these strands as it is, whatever they are made of.
use Rattle.cw_code.specs.declared.program.Program.{Program}
use Rattle.cw_strand.specs.Strands.{Strands}
use Rattle.cw_strand.specs.Running as running
use Rattle.cw_strand.specs.Coded as coded
use Rattle.cw_strand.specs.Standing.{StandsWanting}
use Rattle.cw_job.specs.declared.standing.Standing.{Standing}
use Rattle.cw_job.specs.Jobs.{Job}

-- a strand at its want
abbrev pub StrandState : Type 0
StrandState = running.Standing coded.State

-- The strands of a job.
unfoldable pub strands_of_job : Job → Strands StrandState
strands_of_job job = coded.strands_of_code job.program.code job.program.main job.words job.limits

-- what a strand in memory means
unfoldable pub state_of : Standing → StrandState
state_of x = record { want = x.want; state = x.strand }

-- The strand is one of the program: it is at a place of its code, as `StandsWanting` says.
unfoldable pub IsOf : Program → Standing → Type 0
IsOf program x = StandsWanting program.code x.want x.strand
