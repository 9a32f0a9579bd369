use Rattle.cw_board.proofs.Holding.{split_used}
use Rattle.cw_board.proofs.Naming.{split_changed}
use Rattle.cw_board.proofs.forks.split_tier.Goals as goal

pub returns-in-Some-false-clause-used : goal.returns-in-Some-false-clause-used
returns-in-Some-false-clause-used c = split_used c.split.result c.args.fork c.args.tier.now c.split.new.self c.split.ensures.split c.split.ensures.err

pub returns-in-Some-false-clause-changed : goal.returns-in-Some-false-clause-changed
returns-in-Some-false-clause-changed c = split_changed c.split.result c.args.fork c.args.tier.now c.split.new.self c.split.ensures.split c.split.ensures.labels c.split.ensures.touched
