use Rattle.std.proofs.Common.{sym, ◌∙◌, Some}
use Rattle.cw_audit.proofs.Shortcuts.{first_way, way_there}
use Rattle.cw_audit.proofs.series.is_pending_last.Goals as goal

pub is_pending-requires-in-Some : goal.is_pending-requires-in-Some
is_pending-requires-in-Some c =
    let t = c.args.tree.now in
    way_there t 0 c.args.n c.in-Some.around (first_way t c.nodes.ensures.numbered.rooted 0 c.args.n c.requires.there (Some c.in-Some.around) (sym c.requires.block ∙ c.in-Some.is))
