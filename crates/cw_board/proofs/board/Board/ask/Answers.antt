use Rattle.std.proofs.Common.{◌∙◌, ap}
use Rattle.cw_board.proofs.Reading.{read_returned}
use Rattle.cw_board.proofs.Returning.{returned_is}
use Rattle.cw_board.proofs.board.Board.ask.Goals as goal

pub returns-clause-of : goal.returns-clause-of
returns-clause-of g c =
    let t = c.args.token.now in
    let u = c.ask_once.new.token in
    let r = c.ask_once.ensures.read in
    returned_is c.args.self.now t u c.requires.of (r.table ∙ c.requires.of.table) (read_returned t u r) (ap (λ k. k.room) r.track) r.token
