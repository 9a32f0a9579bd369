use Rattle.cw_text.specs.Lexemes.{is_word}
use Rattle.cw_text.proofs.Prefixes.{take_front, all_take_while}
use Rattle.cw_text.proofs.scan.word_front.Goals as goal

pub word_token-requires : goal.word_token-requires
word_token-requires c = rw (c.word_len.ensures.exact, take_front) (all_take_while is_word c.args.text.now)
