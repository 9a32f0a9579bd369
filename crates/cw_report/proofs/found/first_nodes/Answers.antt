use Rattle.std.proofs.Common.{◌∙◌, rules}
use Rattle.cw_report.proofs.Lookups.{first_step}
use Rattle.cw_report.proofs.found.first_nodes.Goals as goal

pub loop-n-preserved : goal.loop-n-preserved
loop-n-preserved c = λ s. c.in_ok-note_first.ensures s ∙ first_step c.args.tree.now c.loop-n.n _ s _ (c.loop-n.invariant s) (search rules)
