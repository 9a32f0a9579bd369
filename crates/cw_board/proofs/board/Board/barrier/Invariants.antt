use Rattle.cw_steps.specs.Views.{IsTokenOf}
use Rattle.cw_board.specs.Asked.{HasRead}
use Rattle.cw_board.proofs.Passes.{EachMoved}
use Rattle.cw_board.proofs.board.Board.barrier.Given as goal

abbrev pub invariant-loop : goal.invariant-loop
invariant-loop g l = IsTokenOf l.self.shared l.token × HasRead l.initial.token l.token × EachMoved l.self l.last l.initial.token l.token
