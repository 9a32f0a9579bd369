use Rattle.std.proofs.Common.{arith, rules, ap, sym, ◌∙◌}
use Rattle.std.specs.Prelude.{option_and_then}
use Rattle.cw_words.proofs.Numbers.{read, bounded-in}
use Rattle.cw_words.proofs.options.number_within.Goals as goal

pub returns-in_err-number-clause-exact : goal.returns-in_err-number-clause-exact
returns-in_err-number-clause-exact c =
    let h = read c.args.least c.args.most c.args.value.now c.parse.result c.parse.ensures.value.0 (search rules) (omega arith) in
    c.from_residual.ensures ∙ sym (h ∙ ap (option_and_then _) (sym c.ok.ensures.value ∙ c.in_err-number.was))

pub returns-clause-exact : goal.returns-clause-exact
returns-clause-exact c =
    let h = read c.args.least c.args.most c.args.value.now c.parse.result c.parse.ensures.value.0 (search rules) (omega arith) in
    sym (h ∙ ap (option_and_then _) (sym c.ok.ensures.value ∙ c.in_ok-number.was) ∙ bounded-in _ _ _ c.if-number-least.false c.if-most-number.false)
