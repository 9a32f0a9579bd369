use Rattle.std.proofs.Common.{◌∙◌, ap, reverse}
use Rattle.cw_steps.proofs.Tracks.Pending.{first_taken}
use Rattle.cw_steps.proofs.track.pending.cut.Goals as goal

pub returns : goal.returns
returns c = ap reverse c.truncate.ensures.items ∙ first_taken c.args.count c.args.pending.now.items
