-- The machine with one memory, of a job.
use Rattle.cw_strand.specs.Names.{first_memory}
use Rattle.cw_tree.specs.declared.picks.Picks.{Picks}
use Rattle.cw_serial.specs.declared.ends.SerialEnd.{SerialEnd}
use Rattle.cw_job.specs.Jobs.{Job}
use Rattle.cw_job.specs.Room.Strands.{StrandState, strands_of_job}
use Rattle.cw_serial.specs.Machine.{Machine, initial, serial_end}

-- before the first pick
abbrev pub machine_of : Job → Machine StrandState
machine_of job = initial (strands_of_job job) (first_memory job.program.cells)

-- its end under picks
abbrev pub end_under : Job → Picks → SerialEnd
end_under job picks = serial_end (strands_of_job job) (first_memory job.program.cells) picks
