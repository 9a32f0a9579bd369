use Rattle.std.proofs.Common.{◌≡◌, ◌≤◌, take}
use Rattle.std.specs.Prelude.{vec_capacity, vec_len}
use Rattle.cw_steps.specs.Leaving.{HasReturned}
use Rattle.cw_steps.specs.Stands.{token_of}
use Rattle.cw_board.specs.Boards.{IsOf}
use Rattle.cw_board.specs.Cancelled.{ArePutBack}
use Rattle.cw_board.proofs.board.Board.look_at.Given as goal

abbrev pub invariant-loop-cell : goal.invariant-loop-cell
invariant-loop-cell g l = record {
  of : IsOf l.self l.token;
  returned : HasReturned l.fn.token.seat.me l.token.seat.me;
  track : l.token.track ≡ l.fn.token.track;
  token : token_of l.token ≡ token_of l.fn.token;
  put_back : ArePutBack l.self l.fn.token (take l.cell-index l.cells) l.list.items;
  few : vec_len l.list ≤ l.cell-index;
  room : vec_capacity l.fn.list ≤ vec_capacity l.list;
}
