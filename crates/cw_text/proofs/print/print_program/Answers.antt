use Rattle.std.proofs.Common.{◌≡◌, [], ap, sym, ◌∙◌, map, arith}
use Rattle.cw_text.specs.Printed.{heading_tokens, tokens}
use Rattle.cw_text.specs.PrintedText.{printed_text, source_tokens, with_tokens}
use Rattle.cw_text.specs.Syntax.{declaration_of, source_of}
use Rattle.cw_text.proofs.Printing.{items_next, items_over, with_tokens_append, with_tokens_text}
use Rattle.cw_text.proofs.print.print_program.Goals as goal

pub loop-item-preserved : goal.loop-item-preserved
loop-item-preserved c =
    rw c.in_ok-item.ensures
    (sym (items_next c.loop-item.printer c.deref-item-items.result.now c.loop-item.item-index c.item-item.result c.loop-item-test.true c.item-item.is) ∙ c.loop-item.invariant)

pub returns : goal.returns
returns c =
    let items = c.deref-item-items.result.now in
    let source = source_of c.args.ast.now in
    let heading = heading_tokens source.language in
    let whole : with_tokens (with_tokens c.new.result.items heading) (tokens (map declaration_of items)) ≡ printed_text source =
    rw (c.new.ensures.items, c.deref-item-items.ensures.value) (sym (with_tokens_append [] heading (tokens source.items)) ∙ with_tokens_text [] (source_tokens source)) in
    let all : c.loop-item.printer ≡ printed_text source =
    items_over c.loop-item.printer (with_tokens (with_tokens c.new.result.items heading) (tokens (map declaration_of items))) items c.loop-item.item-index (omega (arith, c.loop-item-test.false))
    (c.loop-item.invariant ∙ ap (λ text. with_tokens text (tokens (map declaration_of items))) c.in_ok-heading.ensures) ∙ whole in
    cc
