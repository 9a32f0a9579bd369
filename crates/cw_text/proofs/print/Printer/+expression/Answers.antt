use Rattle.std.proofs.Common.{◌-◌, ℕ, List, length, take, drop, ap, sym, ◌∙◌, arith}
use Rattle.cw_text.specs.Printed.{more_terms_tokens}
use Rattle.cw_text.specs.PrintedText.{with_tokens}
use Rattle.cw_text.specs.Syntax.{terms_of}
use Rattle.cw_text.proofs.Blocks.{inner_is_terms}
use Rattle.cw_text.proofs.Printing.{arguments_begun, arguments_next, arguments_over}
use Rattle.cw_text.proofs.print.Printer.+expression.Goals as goal

pub argument_list-loop-arg-preserved : goal.argument_list-loop-arg-preserved
argument_list-loop-arg-preserved t c =
    let rest = take (length c.args.args.now - 1) (drop 1 c.args.args.now) in
    rw (c.in_ok-term-2.ensures, c.in_ok-sign.ensures)
    (sym (arguments_next c.loop-arg.self rest c.loop-arg.arg-index c.arg-item.result c.loop-arg-test.true c.arg-item.is) ∙ c.loop-arg.invariant)

pub argument_list-returns-after-loop-arg : goal.argument_list-returns-after-loop-arg
argument_list-returns-after-loop-arg t c =
    let rest = take (length c.args.args.now - 1) (drop 1 c.args.args.now) in
    arguments_over c.loop-arg.self (with_tokens c.term.new.self (more_terms_tokens (terms_of rest))) rest c.loop-arg.arg-index (omega (arith, c.loop-arg-test.false)) c.loop-arg.invariant
    ∙ ap (λ (text : List ℕ). with_tokens text (more_terms_tokens (terms_of rest))) c.in_ok-term.ensures
    ∙ sym (arguments_begun c.args.self.now c.args.args.now c.first-item.result (omega (arith, c.in-len1-up.len_at_least)) c.first-item.is)

pub term-returns-in_ok-word-in-Call : goal.term-returns-in_ok-word-in-Call
term-returns-in_ok-word-in-Call t c =
    rw (c.in-Call.is, inner_is_terms c.in-Call.args, ← c.as_slice.ensures.value, ← c.in_ok-word-in-Call.ensures) c.arguments.ensures
