use Rattle.std.proofs.Common.{refl, arith}
use Rattle.cw_steps.proofs.Leaving.Journals.{looks_not}
use Rattle.cw_board.proofs.board.Board.undo_cells.Goals as goal

pub loop-cell-init : goal.loop-cell-init
loop-cell-init g c = (c.requires, looks_not c.args.token.now.seat.me, refl, omega arith)
