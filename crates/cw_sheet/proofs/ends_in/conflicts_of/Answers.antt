use Rattle.std.proofs.lemmas.Result.{err_from_is_err_and}
use Rattle.cw_sheet.specs.Reading.{conflict_row}
use Rattle.cw_sheet.specs.Taking.{place_of}
use Rattle.cw_sheet.proofs.Taking.{taken_of_fails, taken_of_step}
use Rattle.cw_sheet.proofs.ends_in.conflicts_of.Goals as goal

pub returns-in_err-conflict_row : goal.returns-in_err-conflict_row
returns-in_err-conflict_row c =
    let p = err_from_is_err_and c.from_residual.result c.from_residual.ensures.1 in
    rw (p.1, p.2) (taken_of_fails c.args.count (λ k q. conflict_row q) (place_of c.args.cursor.now) c.loop-number.conflicts.items c.loop-number._number (place_of c.loop-number.cursor) c.loop-number.invariant c.in_err-conflict_row.field-0.0 c.loop-number-test.true c.in_err-conflict_row.ensures)

pub loop-number-preserved : goal.loop-number-preserved
loop-number-preserved c =
    rw c.in_ok-push.ensures.items (taken_of_step c.args.count (λ k q. conflict_row q) (place_of c.args.cursor.now) c.loop-number.conflicts.items c.loop-number._number (place_of c.loop-number.cursor) c.loop-number.invariant c.in_ok-conflict_row.field-0 (place_of c.conflict_row.new.cursor) c.loop-number-test.true c.in_ok-conflict_row.ensures)
