use Rattle.std.proofs.Common.{◌∙◌, sym}
use Rattle.cw_steps.specs.Places.{version_word}
use Rattle.cw_board.specs.Boards.{cells_in}
use Rattle.cw_board.proofs.Reading.{reads_more, reads_not}
use Rattle.cw_board.proofs.board.Board.version.Goals as goal

pub returns-clause-read : goal.returns-clause-read
returns-clause-read g c =
    let t = c.args.token.now in
    let e = c.load.ensures in
    reads_more t t c.load.new.token (version_word (cells_in c.args.self.now)) c.load.result (reads_not t) (e.table ∙ sym c.requires.table) e.view e.slots e.track e.token
