use Rattle.cw_trace.proofs.Keeps.Kept.{fork_keeps_all}
use Rattle.cw_trace.proofs.tier.Tier.fork.Goals as goal

pub returns-clause-keeps : goal.returns-clause-keeps
returns-clause-keeps c = fork_keeps_all c.fork_columns.result c.args.word c.args.parent c.args.self.now c.fork_columns.new.self c.fork_columns.ensures.room c.fork_columns.ensures.forked c.fork_columns.ensures.inline c.fork_columns.ensures.err
