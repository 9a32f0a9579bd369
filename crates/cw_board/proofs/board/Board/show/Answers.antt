use Rattle.cw_board.proofs.Boards.{marked_is}
use Rattle.cw_board.proofs.board.Board.show.Goals as goal

pub returns-then-word-eq0-clause-of : goal.returns-then-word-eq0-clause-of
returns-then-word-eq0-clause-of c = let e = c.set_gap.ensures in marked_is c.args.self.now c.args.token.now c.set_gap.new.token c.requires e.table e.slots e.kept.2 _ _ e.view e.token
