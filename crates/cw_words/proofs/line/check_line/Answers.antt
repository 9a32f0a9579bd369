use Rattle.std.proofs.Common.{◌≡◌, ◌∙◌, ap, codes, map, rules}
use Rattle.std.proofs.lemmas.Result.{IfOk-weaker}
use Rattle.cw_words.specs.Words.{check_options}
use Rattle.cw_words.specs.Shapes.{leaf_app}
use Rattle.cw_words.proofs.line.check_line.Goals as goal

pub returns-clause-app : goal.returns-clause-app
returns-clause-app c =
    let is : map (λ n. n.now) c.as_slice.result.now ≡ check_options = search rules in
    IfOk-weaker c.command_with.result _ _ (λ r h. h ∙ ap (leaf_app (codes "check")) is) c.command_with.ensures.app
