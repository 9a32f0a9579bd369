use Rattle.std.proofs.Common.{ap, length, ◌∙◌}
use Rattle.cw_tree.specs.Accesses.{live_accesses}
use Rattle.cw_tree.proofs.Lists.{length_map_below}
use Rattle.cw_audit.proofs.cancels.cancels_hold.Goals as goal

pub all_hold-requires-clause-len : goal.all_hold-requires-clause-len
all_hold-requires-clause-len c =
    ap length (c.as_slice-journals.ensures.value ∙ c.in_ok-survey.ensures.journals) ∙ length_map_below (live_accesses c.args.tree.now) (length c.args.first.now)
