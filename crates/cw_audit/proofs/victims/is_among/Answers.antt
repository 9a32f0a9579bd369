use Rattle.std.proofs.Common.{◌∙◌}
use Rattle.cw_audit.proofs.Rolling.{among_is}
use Rattle.cw_audit.proofs.victims.is_among.Goals as goal

pub returns : goal.returns
returns c = c.is_ok.ensures.value ∙ among_is c.args.sorted.now c.args.stamp c.binary_search.result c.requires c.binary_search.ensures.position
