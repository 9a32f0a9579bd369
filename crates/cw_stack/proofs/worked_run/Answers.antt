use Rattle.std.proofs.Common.{refl}
use Rattle.cw_stack.proofs.WorkedEntries.{all_agree}
use Rattle.cw_stack.proofs.worked_run.Goals as goal

pub returns-clause-agree : goal.returns-clause-agree
returns-clause-agree c = all_agree

pub returns-clause-waits : goal.returns-clause-waits
returns-clause-waits c = record { before = refl; after = refl; early = λ h. absurd (cc h.0); chain = refl }
