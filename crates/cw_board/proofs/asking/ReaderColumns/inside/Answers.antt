use Rattle.cw_board.proofs.Reading.{told_inside, told_stays}
use Rattle.cw_board.proofs.asking.ReaderColumns.inside.Goals as goal

pub returns-clause-told : goal.returns-clause-told
returns-clause-told g c =
    let one = c.word_at-opening in
    let two = c.word_at-inner in
    let three = c.word_at-closing in
    told_inside g.W.Asking.question three.new.self.token.now c.args.trace c.args.outer one.result two.result three.result c.stands_between.result
    (three.ensures.kept _ _ (two.ensures.kept _ _ one.ensures.heard)) (three.ensures.kept _ _ two.ensures.heard) three.ensures.heard c.stands_between.ensures.value

pub returns-clause-kept : goal.returns-clause-kept
returns-clause-kept g c =
    let one = c.word_at-opening in
    let two = c.word_at-inner in
    let three = c.word_at-closing in
    told_stays g.W.Asking.question c.args.self.now.token.now three.new.self.token.now (λ p n h. three.ensures.kept p n (two.ensures.kept p n (one.ensures.kept p n h)))
