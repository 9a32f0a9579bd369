use Rattle.cw_strand.proofs.Unbroken.Functions.{breaks_no_rule}
use Rattle.cw_strand.proofs.compiled_code_breaks_no_rule.Goals as goal

pub returns : goal.returns
returns c = breaks_no_rule
