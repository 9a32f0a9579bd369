use Rattle.std.proofs.Common.{◌<◌, ap, sym, ◌∙◌, arith, length, None}
use Rattle.std.specs.Prelude.{slice_index_or}
use Rattle.cw_tree.specs.Nodes.{is_block}
use Rattle.cw_tree.specs.Walks.{xparent}
use Rattle.cw_tree.proofs.Lists.{length_map_below, get_map_below}
use Rattle.cw_tree.proofs.Walks.Climbs.{found_above, not_found_above}
use Rattle.cw_audit.proofs.blocks.block_above.Goals as goal

pub bounds-before-parent : goal.bounds-before-parent
bounds-before-parent c =
    let some : 0 < c.args.n = omega arith in
    omega (arith, c.parent-parent.ensures.low some, ap length c.requires.before, length_map_below (xparent c.args.tree.now) c.args.n)

pub returns-then-is_block : goal.returns-then-is_block
returns-then-is_block c =
    let some : 0 < c.args.n = omega arith in
    found_above c.args.tree.now c.parent-parent.ensures.numbered.rooted (is_block c.args.tree.now) c.args.n c.parent-parent.result c.parent-parent.ensures.parent some c.requires.there
    (sym c.if-is_block.true ∙ c.is_block.ensures)

pub returns-else-is_block : goal.returns-else-is_block
returns-else-is_block c =
    let t = c.args.tree.now in
    let q = c.parent-parent.result in
    let some : 0 < c.args.n = omega arith in
    ap (λ xs. slice_index_or xs q None) c.requires.before
    ∙ get_map_below (xparent t) c.args.n q None (c.parent-parent.ensures.low some)
    ∙ not_found_above t c.parent-parent.ensures.numbered.rooted (is_block t) c.args.n q c.parent-parent.ensures.parent some c.requires.there (sym c.if-is_block.false ∙ c.is_block.ensures)
