use Rattle.cw_strand.proofs.Cancelling.{gives_up_nothing}
use Rattle.cw_strand.proofs.code_gives_up_nothing.Goals as goal

pub returns : goal.returns
returns c = λ code main words limits sound without. gives_up_nothing code without sound main words limits
