use Rattle.cw_board.proofs.Boards.{began_is}
use Rattle.cw_board.proofs.board.Board.start.Goals as goal

pub returns-clause-of : goal.returns-clause-of
returns-clause-of c = let e = c.draw.ensures in began_is c.args.self.now c.args.token.now c.draw.new.token c.requires.of e.table e.slots e.kept.1 c.draw.result e.later e.view e.token
