use Rattle.cw_board.proofs.Boards.{marked_is}
use Rattle.cw_board.proofs.board.Board.hide.Goals as goal

pub returns-clause-of : goal.returns-clause-of
returns-clause-of c = let e = c.clear_gap.ensures in marked_is c.args.self.now c.args.token.now c.clear_gap.new.token c.requires e.table e.slots e.kept.2 _ _ e.view e.token
