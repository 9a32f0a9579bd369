use Rattle.std.proofs.Common.{◌≡◌, ℕ, List, ap, sym, ◌∙◌, arith}
use Rattle.cw_text.specs.declared.terminal.Terminal.TheVariants as m
use Rattle.cw_text.specs.Printed.{sign, statements_tokens}
use Rattle.cw_text.specs.PrintedText.{with_tokens}
use Rattle.cw_text.specs.Syntax.{block_of, term_of}
use Rattle.cw_text.proofs.Blocks.{inner_is_block}
use Rattle.cw_text.proofs.Printing.{choice_printed, else_printed, loop_printed, statements_next, statements_over, with_tokens_append}
use Rattle.cw_text.proofs.print.Printer.+block.Goals as goal

pub block-loop-statement-preserved : goal.block-loop-statement-preserved
block-loop-statement-preserved t c =
    rw c.in_ok-statement.ensures
    (sym (statements_next c.loop-statement.self c.args.body.now c.loop-statement.statement-index c.statement-item.result c.loop-statement-test.true c.statement-item.is) ∙ c.loop-statement.invariant)

pub block-returns : goal.block-returns
block-returns t c =
    let inner = statements_tokens (block_of c.args.body.now) in
    let begun = with_tokens c.args.self.now (sign m.BraceOpen) in
    let here : c.loop-statement.self ≡ with_tokens begun inner =
    statements_over c.loop-statement.self (with_tokens c.sign.new.self inner) c.args.body.now c.loop-statement.statement-index (omega (arith, c.loop-statement-test.false)) c.loop-statement.invariant
    ∙ ap (λ (text : List ℕ). with_tokens text inner) c.in_ok-sign.ensures in
    rw (with_tokens_append begun inner (sign m.BraceClose), ← here) c.sign-2.ensures

pub otherwise-returns : goal.otherwise-returns
otherwise-returns t c = rw (else_printed c.args.self.now c.args.other.now (sym c.is_empty.ensures ∙ c.if-is_empty.false), ← c.in_ok-sign.ensures) c.block.ensures

pub statement-returns-in_ok-block-in-If : goal.statement-returns-in_ok-block-in-If
statement-returns-in_ok-block-in-If t c =
    let then_done = block_of c.as_slice-in-If.result.now in
    let else_done = block_of c.as_slice-in-If-2.result.now in
    rw (
      c.in-If.is,
      inner_is_block c.in-If.then,
      inner_is_block c.in-If.other,
      ← c.as_slice-in-If.ensures.value,
      ← c.as_slice-in-If-2.ensures.value,
      choice_printed c.args.self.now (term_of c.in-If.test) then_done else_done,
      ← c.in_ok-sign-in-If.ensures,
      ← c.in_ok-term-in-If.ensures,
      ← c.in_ok-block-in-If.ensures,
    ) c.otherwise.ensures

pub statement-returns-in_ok-term-in-While : goal.statement-returns-in_ok-term-in-While
statement-returns-in_ok-term-in-While t c =
    rw (
      c.in-While.is,
      inner_is_block c.in-While.body,
      ← c.as_slice-in-While.ensures.value,
      loop_printed c.args.self.now (term_of c.in-While.test) (block_of c.as_slice-in-While.result.now),
      ← c.in_ok-sign-in-While.ensures,
      ← c.in_ok-term-in-While.ensures,
    ) c.block-in-While.ensures
