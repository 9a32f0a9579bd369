use Rattle.std.proofs.Common.{length}
use Rattle.cw_sheet.specs.Items.{value}
use Rattle.cw_sheet.specs.Taking.{place_of}
use Rattle.cw_sheet.proofs.Taking.{HasTaken}
use Rattle.cw_sheet.proofs.lines.values_behind.Given as goal

abbrev pub invariant-loop-values : goal.invariant-loop-values
invariant-loop-values l = HasTaken value (place_of l.fn.cursor) l.values.items (place_of l.cursor)

abbrev pub decreases-loop-values : goal.decreases-loop-values
decreases-loop-values l = length l.cursor.rest.now
