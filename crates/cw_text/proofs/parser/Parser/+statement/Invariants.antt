use Rattle.std.proofs.Common.{◌+◌, ◌-◌, ◌*◌}
use Rattle.cw_text.specs.Cursor.{count_of_lexemes}
use Rattle.cw_text.specs.Parser.{ahead}
use Rattle.cw_text.proofs.Turns.{HasReadStatements}
use Rattle.cw_text.proofs.parser.Parser.+statement.Given as goal

abbrev pub decreases-block : goal.decreases-block
decreases-block l = 4 * (200 - l.self.now.depth)

abbrev pub decreases-otherwise : goal.decreases-otherwise
decreases-otherwise l = 4 * (200 - l.self.now.depth) + 1

abbrev pub decreases-if_statement : goal.decreases-if_statement
decreases-if_statement l = 4 * (200 - l.self.now.depth) + 2

abbrev pub decreases-while_statement : goal.decreases-while_statement
decreases-while_statement l = 4 * (200 - l.self.now.depth) + 2

abbrev pub decreases-atomic_statement : goal.decreases-atomic_statement
decreases-atomic_statement l = 4 * (200 - l.self.now.depth) + 2

abbrev pub decreases-spawn_statement : goal.decreases-spawn_statement
decreases-spawn_statement l = 4 * (200 - l.self.now.depth) + 2

abbrev pub decreases-statement : goal.decreases-statement
decreases-statement l = 4 * (200 - l.self.now.depth) + 3

abbrev pub invariant-block-loop-body : goal.invariant-block-loop-body
invariant-block-loop-body l = HasReadStatements l.fn.self l.self l.body.items

abbrev pub decreases-block-loop-body : goal.decreases-block-loop-body
decreases-block-loop-body l = count_of_lexemes (ahead l.self)
