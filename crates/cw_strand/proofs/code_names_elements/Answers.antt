use Rattle.cw_strand.proofs.Elements.{names_elements}
use Rattle.cw_strand.proofs.code_names_elements.Goals as goal

pub returns : goal.returns
returns c = λ code main words limits sound. names_elements code sound main words limits
