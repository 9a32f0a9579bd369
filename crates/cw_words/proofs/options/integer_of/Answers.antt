use Rattle.std.proofs.Common.{rules, sym, ◌∙◌}
use Rattle.cw_words.proofs.Numbers.{read_integer}
use Rattle.cw_words.proofs.options.integer_of.Goals as goal

pub returns : goal.returns
returns c = c.ok.ensures.value ∙ sym (read_integer c.args.word.now c.parse.result c.parse.ensures.value.0 (search rules))
