use Rattle.std.proofs.Common.{rules}
use Rattle.cw_steps.proofs.Steps.Marking.{weighs}
use Rattle.cw_steps.proofs.table.Shared.weigh.Goals as goal

pub load-requires : goal.load-requires
load-requires c = (search rules, search rules, weighs _ _ _ _)
