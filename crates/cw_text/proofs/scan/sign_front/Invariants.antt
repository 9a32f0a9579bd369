use Rattle.std.proofs.Common.{◌≡◌, drop}
use Rattle.cw_text.specs.Lexemes.{sign_front}
use Rattle.cw_text.proofs.scan.sign_front.Given as goal

abbrev pub invariant-loop-terminal : goal.invariant-loop-terminal
invariant-loop-terminal l = sign_front (drop l.terminal-index l.signs) l.text ≡ sign_front l.signs l.text
