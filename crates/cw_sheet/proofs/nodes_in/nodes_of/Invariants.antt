use Rattle.cw_sheet.specs.Reading.{node}
use Rattle.cw_sheet.specs.Taking.{place_of}
use Rattle.cw_sheet.proofs.Taking.{HasTakenOf}
use Rattle.cw_sheet.proofs.nodes_in.nodes_of.Given as goal

abbrev pub invariant-loop-number : goal.invariant-loop-number
invariant-loop-number l = HasTakenOf l.count node (place_of l.fn.cursor) l.nodes.items l.number (place_of l.cursor)
