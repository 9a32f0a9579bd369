use Rattle.std.proofs.Common.{rules}
use Rattle.cw_steps.proofs.Steps.Changing.{makes_even}
use Rattle.cw_steps.proofs.versions.make_even_as.Goals as goal

pub fetch_add-requires : goal.fetch_add-requires
fetch_add-requires g c = (search rules, search rules, makes_even _ _ _ _ _ (search rules) _ (search rules) _ (search rules))
