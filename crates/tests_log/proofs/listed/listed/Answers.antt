use Rattle.std.proofs.Common.{◌+◌, ◌∙◌, ap, refl, subst, sym, List, map}
use Rattle.std.specs.List.Sorted.{IsStrictlyIncreasing}
use Rattle.cw_code.specs.declared.Back.{Back}
use Rattle.tests_log.proofs.Listing.{cells_rise, one_cell_more, still_rising, AreRising}
use Rattle.tests_log.proofs.listed.listed.Goals as goal
use Rattle.tests_log.proofs.listed.listed.Goals.{then-is_written+in_ok-push, else-is_written}

pub loop-cell-preserved : goal.loop-cell-preserved
loop-cell-preserved c =
    let n = c.loop-cell.cell in
    let old = c.loop-cell.list.items in
    elim c.if-is_written.branch [
      | then-is_written+in_ok-push w ↦ subst (AreRising (n + 1)) (sym (ap (λ v. v.items) w.list-is ∙ w.in_ok-push.ensures.items)) (one_cell_more n old _ refl c.loop-cell.invariant)
      | else-is_written w ↦ subst (AreRising (n + 1)) (sym (ap (λ v. v.items) w.list-is)) (still_rising n old c.loop-cell.invariant)
    ]

pub returns-clause-rises : goal.returns-clause-rises
returns-clause-rises c = subst (λ (bs : List Back). IsStrictlyIncreasing (map (λ (b : Back). b.cell) bs)) (sym c.from_vec.ensures) (cells_rise c.loop-cell.cell c.loop-cell.list.items c.loop-cell.invariant)
