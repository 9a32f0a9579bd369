use Rattle.std.proofs.Common.{sym, subst}
use Rattle.cw_job.specs.Room.Strands.{state_of, strands_of_job}
use Rattle.cw_serial.specs.InMemory.{AreNames}
use Rattle.cw_serial.proofs.EndAndNames.{are_names}
use Rattle.cw_serial.proofs.machine.Machine.names.Goals as goal

pub returns-clause-names : goal.returns-clause-names
returns-clause-names c = λ job m is. subst (λ ns. AreNames (strands_of_job job) ns m.strands) (sym c.as_slice.ensures.value) (are_names (strands_of_job job) state_of c.args.self.now.strands m.strands is.strands)
