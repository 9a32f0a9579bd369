use Rattle.std.proofs.Common.{rules}
use Rattle.std.specs.Prelude.{vec_len}
use Rattle.std.proofs.lemmas.Option.{slice_get_read}
use Rattle.cw_core.specs.Kept.{without_room}
use Rattle.cw_core.proofs.Kept.Entering.{firsts_kept, plain_same}
use Rattle.cw_core.proofs.held.reserve_entry.Goals as goal

pub returns-clause-kept : goal.returns-clause-kept
returns-clause-kept c =
    let cells = c.args.cells.now.items in
    let at = slice_get_read cells (vec_len c.args.cells.now) c.args.cell c.index_mut.result.now (search rules) c.requires c.index_mut.ensures.value in
    firsts_kept without_room cells c.args.cell c.index_mut.result.now c.reserve.new.self at (plain_same c.reserve.new.self c.index_mut.result.now c.reserve.ensures.first c.reserve.ensures.entries c.reserve.ensures.cleaned)
