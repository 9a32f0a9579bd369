use Rattle.cw_steps.specs.Views.{view_of, IsQuiet, IsTokenOf}
use Rattle.cw_board.specs.Asked.{HasNoted}
use Rattle.cw_board.specs.Turns.{HasWaited}
use Rattle.cw_board.proofs.board.Board.take_turn.Given as goal

abbrev pub invariant-loop : goal.invariant-loop
invariant-loop g l = IsTokenOf l.self.shared l.token × HasWaited l.initial.token l.token × IsQuiet (view_of l.token) × HasNoted l.initial.token l.token
