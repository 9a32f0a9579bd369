use Rattle.std.proofs.Common.{rules}
use Rattle.cw_steps.proofs.Steps.Marking.{stops_here}
use Rattle.cw_steps.proofs.marks.halt_as.Goals as goal

pub store-requires : goal.store-requires
store-requires g c = (search rules, search rules, stops_here _ _ _ _ _ _ (search rules))
