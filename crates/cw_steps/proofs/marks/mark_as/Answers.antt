use Rattle.std.proofs.Common.{rules}
use Rattle.cw_steps.proofs.Steps.Marking.{marks}
use Rattle.cw_steps.proofs.marks.mark_as.Goals as goal

pub store-requires : goal.store-requires
store-requires g c = (search rules, search rules, marks _ _ _ _ _ _ (search rules))
