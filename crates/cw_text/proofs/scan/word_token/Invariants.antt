use Rattle.std.proofs.Common.{◌≡◌, drop}
use Rattle.cw_text.specs.Lexemes.{word_token}
use Rattle.cw_text.proofs.scan.word_token.Given as goal

abbrev pub invariant-loop-terminal : goal.invariant-loop-terminal
invariant-loop-terminal l = word_token (drop l.terminal-index l.words) l.word ≡ word_token l.words l.word
