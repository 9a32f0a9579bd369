use Rattle.std.proofs.Common.{length}
use Rattle.cw_sheet.specs.Items.{number64}
use Rattle.cw_sheet.specs.Taking.{place_of}
use Rattle.cw_sheet.proofs.Taking.{HasTaken}
use Rattle.cw_sheet.proofs.lines.numbers_behind.Given as goal

abbrev pub invariant-loop-numbers : goal.invariant-loop-numbers
invariant-loop-numbers l = HasTaken number64 (place_of l.fn.cursor) l.numbers.items (place_of l.cursor)

abbrev pub decreases-loop-numbers : goal.decreases-loop-numbers
decreases-loop-numbers l = length l.cursor.rest.now
