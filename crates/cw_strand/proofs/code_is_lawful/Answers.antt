use Rattle.cw_strand.proofs.CodeLaws.{code_is_lawful}
use Rattle.cw_strand.proofs.code_is_lawful.Goals as goal

pub returns : goal.returns
returns c = code_is_lawful
