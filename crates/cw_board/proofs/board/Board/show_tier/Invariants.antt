use Rattle.cw_board.proofs.Showing.{IsShowing}
use Rattle.cw_board.proofs.board.Board.show_tier.Given as goal

abbrev pub invariant-loop-column : goal.invariant-loop-column
invariant-loop-column l = IsShowing l.self l.fork l.tier l.tier.touched l.column-index l.fn.token l.token
