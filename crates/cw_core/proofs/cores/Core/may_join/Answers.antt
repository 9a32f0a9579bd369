use Rattle.std.proofs.Common.{sym, ◌∙◌}
use Rattle.cw_core.proofs.Fits.Fits.{left_there, right_there}
use Rattle.cw_core.proofs.cores.Core.may_join.Goals as goal

pub has_finished-requires : goal.has_finished-requires
has_finished-requires c = left_there c.args.self.now c.args.fork c.row-row.result c.row-row.ensures.row (sym c.is_fork.ensures ∙ c.if-not-is_fork.false)

pub has_finished-requires-then-has_finished : goal.has_finished-requires-then-has_finished
has_finished-requires-then-has_finished c = right_there c.args.self.now c.args.fork c.row-row.result c.row-row.ensures.row (sym c.is_fork.ensures ∙ c.if-not-is_fork.false)
