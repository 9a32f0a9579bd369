use Rattle.std.proofs.Common.{◌≡◌, length, take}
use Rattle.cw_steps.specs.Views.{IsTokenOf}
use Rattle.cw_steps.specs.Passes.{ToldBy}
use Rattle.cw_board.specs.Asked.{noted_since, HasRead}
use Rattle.cw_board.specs.Boards.{cells_in, columns_of}
use Rattle.cw_board.specs.Victims.{outermost_first, AreAbove}
use Rattle.cw_board.proofs.board.Board.victim_by_words.Given as goal

abbrev pub invariant-loop-k : goal.invariant-loop-k
invariant-loop-k g l = record {
  table : IsTokenOf l.self.shared l.token;
  read : HasRead l.fn.token l.token;
  count : l.count ≡ length (outermost_first l.fn.token);
  above : AreAbove (ToldBy (cells_in l.self) (columns_of l.self) (noted_since l.fn.token l.token)) l.last (take l.k (outermost_first l.fn.token));
}
