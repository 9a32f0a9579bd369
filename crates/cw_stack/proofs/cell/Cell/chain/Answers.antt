use Rattle.std.proofs.Common.{◌≡◌, ◌-◌, List, length, take, drop, ap, sym, ◌∙◌, arith, subst}
use Rattle.std.proofs.lemmas.List.{take_all, take_rest, drop-map, length-map}
use Rattle.cw_tree.specs.declared.access.Entry.{Entry}
use Rattle.cw_tree.specs.AccessStacks.{stamps}
use Rattle.cw_tree.specs.Newest.{last_eight}
use Rattle.cw_stack.specs.Cells.{CellParts}
use Rattle.cw_stack.proofs.cell.Cell.chain.Goals as goal

pub returns : goal.returns
returns c =
    let now = c.deref.result.now in
    let skipped = c.saturating_sub-skipped.result in
    let rest : List Entry = take (length now - skipped) (drop skipped now) in
    let all : take c.loop-entry.entry-index rest ≡ drop skipped now = take_all c.loop-entry.entry-index rest c.loop-entry-test.false ∙ take_rest now skipped in
    let size : length (stamps now) ≡ length now = length-map now (λ e. e.mark.stamp) in
    let place : skipped ≡ length (stamps now) - 8 = omega (arith, c.deref.ensures.len, c.len.ensures, c.saturating_sub-skipped.ensures) in
    let P : CellParts → Type 0 = λ p. c.loop-entry.chain.items ≡ last_eight (stamps p.entries) in
    subst P c.self.view_is
    (c.loop-entry.invariant
    ∙ ap stamps all
    ∙ sym (drop-map (λ e. e.mark.stamp) skipped now)
    ∙ ap (λ n. drop n (stamps now)) place
    ∙ ap (λ es. last_eight (stamps es)) c.deref.ensures.value)
