use Rattle.cw_text.specs.Cursor.{count_of_lexemes, tokens_left}
use Rattle.cw_text.specs.Parser.{ahead}
use Rattle.cw_text.proofs.Turns.{HasReadItems}
use Rattle.cw_text.proofs.parser.items.Given as goal

abbrev pub invariant-loop-items : goal.invariant-loop-items
invariant-loop-items l = HasReadItems (tokens_left l.fn.cursor) l.parser l.items.items

abbrev pub decreases-loop-items : goal.decreases-loop-items
decreases-loop-items l = count_of_lexemes (ahead l.parser)
