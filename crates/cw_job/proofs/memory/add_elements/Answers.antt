use Rattle.std.proofs.Common.{◌≡◌, rules, length, vec_len, SFits, w64}
use Rattle.std.proofs.lemmas.Int.{to_z-of_z}
use Rattle.cw_job.proofs.FirstMemory.{resized}
use Rattle.cw_job.proofs.memory.add_elements.Goals as goal

pub returns : goal.returns
returns c =
    let fits : SFits w64 c.args.cell.now.init = search rules in
    let len : vec_len c.args.memory.now ≡ length c.args.memory.now.items = search rules in
    rw (c.in_ok-resize.ensures.items, to_z-of_z w64 c.args.cell.now.init fits) (resized c.args.memory.now.items (vec_len c.args.memory.now) c.len.result c.max-elements.result c.args.cell.now.len c.args.cell.now.init len c.len.ensures c.max-elements.ensures)
