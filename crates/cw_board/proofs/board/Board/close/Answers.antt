use Rattle.cw_board.proofs.Boards.{at_rest_quiet}
use Rattle.cw_board.proofs.board.Board.close.Goals as goal

pub close-requires-clause-quiet : goal.close-requires-clause-quiet
close-requires-clause-quiet c = at_rest_quiet c.args.self c.args.token c.requires.of
