use Rattle.std.proofs.Common.{length}
use Rattle.cw_sheet.specs.Reading.{back}
use Rattle.cw_sheet.specs.Taking.{place_of}
use Rattle.cw_sheet.proofs.Taking.{HasTaken}
use Rattle.cw_sheet.proofs.lines.backs_behind.Given as goal

abbrev pub invariant-loop-backs : goal.invariant-loop-backs
invariant-loop-backs l = HasTaken back (place_of l.fn.cursor) l.backs.items (place_of l.cursor)

abbrev pub decreases-loop-backs : goal.decreases-loop-backs
decreases-loop-backs l = length l.cursor.rest.now
