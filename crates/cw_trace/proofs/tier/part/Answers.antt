use Rattle.cw_trace.proofs.Marks.Edits.{parts_before}
use Rattle.cw_trace.proofs.tier.part.Goals as goal

pub loop-i-init : goal.loop-i-init
loop-i-init c = parts_before c.args.trace c.args.fork c.args.owners.now c.requires.there
