use Rattle.std.proofs.Common.{rules, arith}
use Rattle.cw_steps.proofs.Steps.Changing.{stores}
use Rattle.cw_steps.proofs.Steps.Words.{behind_stop}
use Rattle.cw_steps.proofs.versions.store_as.Goals as goal

pub store-requires : goal.store-requires
store-requires g c = (search rules, search rules, stores _ _ _ _ _ (omega (arith, behind_stop c.args.cells c.args.columns c.args.at, c.word_of_place-word.ensures, c.requires.key.0)) _ _ (search rules) _ (search rules))
