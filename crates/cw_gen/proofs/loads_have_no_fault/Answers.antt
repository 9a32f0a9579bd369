use Rattle.cw_gen.proofs.Faults.{no_fault}
use Rattle.cw_gen.proofs.loads_have_no_fault.Goals as goal

pub returns : goal.returns
returns c = λ n most. no_fault n most
