use Rattle.std.proofs.Common.{◌∙◌, sym}
use Rattle.std.proofs.lemmas.List.{length-reverse}
use Rattle.cw_steps.proofs.track.pending.count.Goals as goal

pub returns : goal.returns
returns c = c.len.ensures ∙ c.args.pending.now.ok.0 ∙ sym (length-reverse c.args.pending.now.items)
