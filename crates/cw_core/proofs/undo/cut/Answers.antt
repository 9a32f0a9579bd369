use Rattle.std.proofs.Common.{sym, ◌∙◌, ◌<◌, arith}
use Rattle.cw_core.proofs.Undone.Undoing.{all_before}
use Rattle.cw_core.proofs.undo.cut.Goals as goal

pub returns-else-mark-stamp-clause-entries : goal.returns-else-mark-stamp-clause-entries
returns-else-mark-stamp-clause-entries c =
    let less : c.in-Some.mark.stamp < c.args.stamp = omega (arith, c.if-mark-stamp.false) in
    sym (all_before c.args.cell.now.entries c.in-Some.mark c.args.stamp c.journal.ensures.rising (sym c.in-Some.is ∙ c.last.ensures.newest) less)
