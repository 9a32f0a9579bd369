use Rattle.cw_strand.proofs.CompiledCancels.{code_has_its_cancels}
use Rattle.cw_strand.proofs.compiled_code_has_its_cancels.Goals as goal

pub returns : goal.returns
returns c = code_has_its_cancels
