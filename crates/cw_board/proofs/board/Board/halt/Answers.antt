use Rattle.cw_board.proofs.Boards.{at_rest_quiet}
use Rattle.cw_board.proofs.board.Board.halt.Goals as goal

pub stop-requires-clause-quiet : goal.stop-requires-clause-quiet
stop-requires-clause-quiet c = at_rest_quiet c.args.self.now c.args.token.now c.requires.of
