use Rattle.std.proofs.Common.{◌∙◌, ap}
use Rattle.cw_job.specs.Room.Strands.{state_of, strands_of_job}
use Rattle.cw_serial.specs.InMemory.{before_end}
use Rattle.cw_serial.proofs.Answered.{wants_same}
use Rattle.cw_serial.proofs.Picked.{unknown_wants}
use Rattle.cw_serial.proofs.machine.Machine.at.Goals as goal

pub returns-clause-wants : goal.returns-clause-wants
returns-clause-wants c = λ job m q is up. c.unless_ended.ensures ∙ (ap before_end (c.want.ensures job) ∙ wants_same (strands_of_job job) state_of c.args.self.now.strands m.strands is.strands c.args.strand q up)

pub returns-clause-unknown : goal.returns-clause-unknown
returns-clause-unknown c = λ job m is past. c.unless_ended.ensures ∙ ap before_end (c.want.ensures job ∙ unknown_wants job c.args.self.now m is c.args.strand past)
