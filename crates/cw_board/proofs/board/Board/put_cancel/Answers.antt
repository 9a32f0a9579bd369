use Rattle.cw_steps.specs.Stands.{token_of}
use Rattle.cw_steps.specs.Views.{view_of}
use Rattle.cw_board.proofs.Boards.{cancelled_is}
use Rattle.cw_board.proofs.Sound.{own_block}
use Rattle.cw_board.proofs.board.Board.put_cancel.Goals as goal

pub draw-requires-clause-block : goal.draw-requires-clause-block
draw-requires-clause-block c =
    let t = c.args.token.now in
    (c.requires.block, own_block (token_of t) (view_of t).room (view_of t).seen c.requires.of.sound c.requires.block)

pub draw-requires-clause-fits : goal.draw-requires-clause-fits
draw-requires-clause-fits c = record { there = c.requires.there; rises = c.requires.rises }

pub returns-clause-of : goal.returns-clause-of
returns-clause-of c = let e = c.draw.ensures in cancelled_is c.args.self.now c.args.token.now c.draw.new.token c.requires.of e.table e.slots e.kept.1 c.draw.result e.later _ e.view e.token
