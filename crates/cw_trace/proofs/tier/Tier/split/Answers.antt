use Rattle.cw_trace.proofs.Outward.Barring.{none_bars_ok, next_bars_err}
use Rattle.cw_trace.proofs.Keeps.Kept.{split_keeps_ok}
use Rattle.cw_trace.proofs.tier.Tier.split.Goals as goal

pub returns-clause-keeps : goal.returns-clause-keeps
returns-clause-keeps c = split_keeps_ok c.split_columns.result c.args.fork c.args.self.now.columns c.split_columns.new.self.columns c.requires.low c.requires.left c.requires.whole c.split_columns.ensures.now c.split_columns.ensures.split

pub returns-clause-allowed : goal.returns-clause-allowed
returns-clause-allowed c = none_bars_ok c.split_columns.result c.args.fork c.args.self.now.columns c.requires.low c.requires.left c.requires.whole c.split_columns.ensures.now

pub returns-clause-barred : goal.returns-clause-barred
returns-clause-barred c = next_bars_err c.split_columns.result (λ e. e.before) c.args.fork c.args.self.now.columns c.requires.low c.requires.left c.requires.whole c.split_columns.ensures.early
