use Rattle.cw_board.proofs.Boards.{at_rest_quiet}
use Rattle.cw_board.proofs.board.Board.halted.Goals as goal

pub is_stopped-requires-clause-quiet : goal.is_stopped-requires-clause-quiet
is_stopped-requires-clause-quiet c = at_rest_quiet c.args.self.now c.args.token.now c.requires
