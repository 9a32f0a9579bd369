use Rattle.std.proofs.Common.{◌≡◌, drop}
use Rattle.cw_text.specs.Printed.{more_terms_tokens}
use Rattle.cw_text.specs.PrintedText.{with_tokens}
use Rattle.cw_text.specs.Syntax.{terms_of}
use Rattle.cw_text.proofs.print.Printer.+expression.Given as goal

abbrev pub invariant-argument_list-loop-arg : goal.invariant-argument_list-loop-arg
invariant-argument_list-loop-arg l =
    with_tokens l.self (more_terms_tokens (terms_of (drop l.arg-index l.rest))) ≡ with_tokens l.initial.self (more_terms_tokens (terms_of l.rest))
