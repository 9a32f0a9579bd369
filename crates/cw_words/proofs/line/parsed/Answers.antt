use Rattle.std.proofs.Common.{◌∙◌, ap, map, string_bytes, subst}
use Rattle.clap.specs.Words.{App, FailsBy, fault_of, is_simple_and_free}
use Rattle.cw_words.proofs.Fits.{fails_err}
use Rattle.cw_words.proofs.Leaf.{cli_is_simple}
use Rattle.cw_words.proofs.line.parsed.Goals as goal

pub returns-clause-err : goal.returns-clause-err
returns-clause-err c =
    let parse = c.try_get_matches_from in
    fails_err parse.result _ (subst (λ (a : App). FailsBy (fault_of a (map string_bytes c.args.words.now)) parse.result) c.in_ok-command.ensures
    (parse.ensures.kinds (ap is_simple_and_free c.in_ok-command.ensures ∙ cli_is_simple)))
