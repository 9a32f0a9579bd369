use Rattle.std.proofs.Common.{append_assoc, ◌∙◌}
use Rattle.cw_top.proofs.text.at_line.Goals as goal

pub returns : goal.returns
returns c = c.in_ok-format.ensures.ok ∙ simp append_assoc
