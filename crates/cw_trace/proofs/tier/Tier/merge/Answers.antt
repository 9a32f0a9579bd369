use Rattle.cw_trace.proofs.Keeps.Kept.{merge_keeps_to}
use Rattle.cw_trace.proofs.tier.Tier.merge.Goals as goal

pub returns-clause-keeps : goal.returns-clause-keeps
returns-clause-keeps c = merge_keeps_to c.args.fork c.args.self.now.columns c.merge_columns.new.self.columns c.requires.low c.requires.left c.requires.split c.merge_columns.ensures.merged
