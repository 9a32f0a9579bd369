use Rattle.cw_strand.proofs.CodeLaws.{wants_of_the_source}
use Rattle.cw_strand.proofs.compiled_code_wants_the_same.Goals as goal

pub returns : goal.returns
returns c = wants_of_the_source
