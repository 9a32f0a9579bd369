use Rattle.std.proofs.Common.{◌≡◌}
use Rattle.cw_steps.specs.Leaving.{HasReturned}
use Rattle.cw_steps.specs.Stands.{token_of}
use Rattle.cw_board.specs.Boards.{IsOf}
use Rattle.cw_board.proofs.board.Board.undo_own.Given as goal

abbrev pub invariant-loop-n : goal.invariant-loop-n
invariant-loop-n g l = IsOf l.self l.token × HasReturned l.fn.token.seat.me l.token.seat.me × (token_of l.token ≡ token_of l.fn.token)
