use Rattle.cw_board.proofs.Boards.{turned_is}
use Rattle.cw_board.proofs.board.Board.next_branch.Goals as goal

pub returns-clause-of : goal.returns-clause-of
returns-clause-of c = let e = c.next_branch.ensures in turned_is c.args.self.now c.args.token.now c.next_branch.new.self c.requires.of e.seat e.room e.token
