use Rattle.cw_steps.proofs.Leaving.Journals.{looks_not}
use Rattle.cw_board.proofs.board.Board.undo_access.Goals as goal

pub returns-in_default-clause-returned : goal.returns-in_default-clause-returned
returns-in_default-clause-returned g c = looks_not c.args.token.now.seat.me

pub returns-else-cell-cells-clause-returned : goal.returns-else-cell-cells-clause-returned
returns-else-cell-cells-clause-returned g c = looks_not c.args.token.now.seat.me
