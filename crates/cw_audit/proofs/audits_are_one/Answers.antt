use Rattle.cw_audit.proofs.OneAnswer.{audits_are_one}
use Rattle.cw_audit.proofs.audits_are_one.Goals as goal

pub returns : goal.returns
returns c = audits_are_one
