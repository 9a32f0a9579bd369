use Rattle.std.proofs.Common.{rules}
use Rattle.cw_steps.proofs.Steps.Marking.{tells}
use Rattle.cw_steps.proofs.table.Shared.is_stopped.Goals as goal

pub load-found-requires : goal.load-found-requires
load-found-requires c = (search rules, search rules, tells _ _ _ _ (search rules) _ (search rules))
