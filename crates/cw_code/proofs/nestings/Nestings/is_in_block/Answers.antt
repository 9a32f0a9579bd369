use Rattle.std.proofs.Common.{sym, ap, ◌∙◌, refl}
use Rattle.cw_code.specs.Rules.{is_in_block}
use Rattle.cw_code.proofs.nestings.Nestings.is_in_block.Goals as goal

pub returns-in-Some : goal.returns-in-Some
returns-in-Some c = c.is_part.ensures ∙ sym (ap is_in_block (c.in-Some.ensures.some c.in-Some.row refl).0)
