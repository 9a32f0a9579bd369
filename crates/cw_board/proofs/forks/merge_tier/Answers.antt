use Rattle.cw_board.proofs.Naming.{merge_changed}
use Rattle.cw_board.proofs.forks.merge_tier.Goals as goal

pub returns-in-Some-true-clause-changed : goal.returns-in-Some-true-clause-changed
returns-in-Some-true-clause-changed c = λ e. merge_changed c.args.fork c.args.tier.now c.merge.new.self c.merge.ensures.merged c.merge.ensures.labels c.merge.ensures.touched
