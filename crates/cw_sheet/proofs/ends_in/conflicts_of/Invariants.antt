use Rattle.cw_sheet.specs.Reading.{conflict_row}
use Rattle.cw_sheet.specs.Taking.{place_of}
use Rattle.cw_sheet.proofs.Taking.{HasTakenOf}
use Rattle.cw_sheet.proofs.ends_in.conflicts_of.Given as goal

abbrev pub invariant-loop-number : goal.invariant-loop-number
invariant-loop-number l = HasTakenOf l.count (λ k q. conflict_row q) (place_of l.fn.cursor) l.conflicts.items l._number (place_of l.cursor)
