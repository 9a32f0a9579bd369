use Rattle.std.proofs.Common.{◌∙◌}
use Rattle.cw_job.specs.Room.Strands.{state_of, strands_of_job}
use Rattle.cw_serial.proofs.EndAndNames.{root_ended}
use Rattle.cw_serial.proofs.machine.Machine.ended.Goals as goal

pub returns : goal.returns
returns c = λ job m is. c.is_over.ensures job ∙ root_ended (strands_of_job job) state_of c.args.self.now.strands m.strands is.strands
