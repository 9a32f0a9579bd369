use Rattle.cw_steps.specs.Stands.{token_of}
use Rattle.cw_steps.specs.Views.{view_of}
use Rattle.cw_board.proofs.Boards.{ended_is}
use Rattle.cw_board.proofs.Sound.{own_block}
use Rattle.cw_board.proofs.board.Board.end.Goals as goal

pub draw-requires-clause-block : goal.draw-requires-clause-block
draw-requires-clause-block c =
    let t = c.args.token.now in
    (c.requires.block, own_block (token_of t) (view_of t).room (view_of t).seen c.requires.of.sound c.requires.block)

pub returns-clause-of : goal.returns-clause-of
returns-clause-of c = let e = c.draw.ensures in ended_is c.args.self.now c.args.token.now c.draw.new.token c.requires.of e.table e.slots e.kept.1 c.draw.result e.later c.args.aborted e.view e.token c.requires.block
