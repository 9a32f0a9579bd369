use Rattle.std.proofs.Common.{sym, ◌∙◌, refl}
use Rattle.cw_code.specs.Rules.{faults}
use Rattle.cw_code.proofs.Fold.{none_found, is_first}
use Rattle.cw_code.proofs.verified.verify.Goals as goal

pub invariant_of-result : goal.invariant_of-result
invariant_of-result c = none_found (faults c.args.code) (sym c.in-Ok-None.ensures ∙ c.in-Ok-None.field-0-is)

pub returns-in-Ok-Some : goal.returns-in-Ok-Some
returns-in-Ok-Some c = is_first c.args.code c.in-Ok-Some.fault (sym c.in-Ok-Some.ensures ∙ c.in-Ok-Some.field-0-is)

pub returns-in-Ok-None : goal.returns-in-Ok-None
returns-in-Ok-None c = (refl, none_found (faults c.args.code) (sym c.in-Ok-None.ensures ∙ c.in-Ok-None.field-0-is))
