use Rattle.cw_text.specs.Cursor.{count_of_lexemes}
use Rattle.cw_text.specs.Parser.{ahead}
use Rattle.cw_text.proofs.Turns.{HasReadParams}
use Rattle.cw_text.proofs.parser.Parser.params.Given as goal

abbrev pub invariant-loop-self : goal.invariant-loop-self
invariant-loop-self l = HasReadParams l.fn.self l.self l.list.items

abbrev pub decreases-loop-self : goal.decreases-loop-self
decreases-loop-self l = count_of_lexemes (ahead l.self)
