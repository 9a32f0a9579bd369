use Rattle.cw_strand.proofs.CodeLaws.{code_ends_only_when_done}
use Rattle.cw_strand.proofs.code_ends_only_when_done.Goals as goal

pub returns : goal.returns
returns c = code_ends_only_when_done
