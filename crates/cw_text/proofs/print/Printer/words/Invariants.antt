use Rattle.std.proofs.Common.{◌≡◌, ◌++◌, drop}
use Rattle.std.specs.List.{flat_map}
use Rattle.cw_text.specs.declared.terminal.Terminal.TheVariants as m
use Rattle.cw_text.specs.Printed.{sign, word_tokens}
use Rattle.cw_text.specs.PrintedText.{with_tokens}
use Rattle.cw_text.proofs.print.Printer.words.Given as goal

abbrev pub invariant-loop-word : goal.invariant-loop-word
invariant-loop-word l =
    with_tokens l.self (flat_map (λ w. sign m.Comma ++ word_tokens w) (drop l.word-index l.rest)) ≡ with_tokens l.initial.self (flat_map (λ w. sign m.Comma ++ word_tokens w) l.rest)
