use Rattle.std.proofs.Common.{◌≡◌, drop}
use Rattle.cw_text.specs.Printed.{statements_tokens}
use Rattle.cw_text.specs.PrintedText.{with_tokens}
use Rattle.cw_text.specs.Syntax.{block_of}
use Rattle.cw_text.proofs.print.Printer.+block.Given as goal

abbrev pub invariant-block-loop-statement : goal.invariant-block-loop-statement
invariant-block-loop-statement l =
    with_tokens l.self (statements_tokens (block_of (drop l.statement-index l.body))) ≡ with_tokens l.initial.self (statements_tokens (block_of l.body))
