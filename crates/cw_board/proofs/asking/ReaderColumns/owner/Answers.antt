use Rattle.cw_board.proofs.Reading.{told_stays}
use Rattle.cw_board.proofs.asking.ReaderColumns.owner.Goals as goal

pub returns-clause-kept : goal.returns-clause-kept
returns-clause-kept g c = told_stays g.W.Asking.question c.args.self.now.token.now c.word_at.new.self.token.now c.word_at.ensures.kept
