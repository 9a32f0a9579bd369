use Rattle.std.proofs.Common.{◌≡◌, drop, map}
use Rattle.cw_text.specs.Printed.{tokens}
use Rattle.cw_text.specs.PrintedText.{with_tokens}
use Rattle.cw_text.specs.Syntax.{declaration_of}
use Rattle.cw_text.proofs.print.print_program.Given as goal

abbrev pub invariant-loop-item : goal.invariant-loop-item
invariant-loop-item l =
    with_tokens l.printer (tokens (map declaration_of (drop l.item-index l.item-items))) ≡ with_tokens l.initial.printer (tokens (map declaration_of l.item-items))
