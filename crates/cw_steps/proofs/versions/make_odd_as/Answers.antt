use Rattle.std.proofs.Common.{rules}
use Rattle.cw_steps.proofs.Steps.Changing.{makes_odd}
use Rattle.cw_steps.proofs.versions.make_odd_as.Goals as goal

pub fetch_add-requires : goal.fetch_add-requires
fetch_add-requires g c = (search rules, search rules, makes_odd _ _ _ _ _ (search rules) _ (search rules) _ _ (search rules))
