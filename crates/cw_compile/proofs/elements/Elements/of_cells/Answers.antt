use Rattle.std.proofs.Common.{List, reverse, subst, ap, ◌∙◌}
use Rattle.std.proofs.lemmas.List.{reverse-reverse}
use Rattle.std.proofs.lemmas.Iterator.Adapters.{YieldsList-from_rev_slice}
use Rattle.std.proofs.lemmas.Iterator.Consumers.{YieldsList-end}
use Rattle.cw_code.specs.declared.CellInfo.{CellInfo}
use Rattle.cw_compile.specs.Numbered.{HasElements}
use Rattle.cw_compile.proofs.elements.Elements.of_cells.Goals as goal

pub invariant_of-result : goal.invariant_of-result
invariant_of-result c =
    let road = YieldsList-from_rev_slice {s = c.into_iter-cell-iterator.result} c.args.cells.now cc in
    let all = (YieldsList-end road c.loop-cell.yielded c.loop-cell.cell-iterator c.loop-cell.yielded_by _ _ c.in-None.is c.next.ensures.steps).0 in
    subst (λ (cells : List CellInfo). HasElements c.loop-cell.extents cells) (ap reverse all ∙ (reverse-reverse c.args.cells.now)) c.loop-cell.invariant
