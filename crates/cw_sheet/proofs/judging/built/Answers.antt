use Rattle.std.proofs.Common.{◌∙◌, arith}
use Rattle.cw_sheet.proofs.Placed.{none_empty, none_misplaced, placed_low, root_is_fresh, root_strand}
use Rattle.cw_sheet.proofs.judging.built.Goals as goal

pub loop-n-init : goal.loop-n-init
loop-n-init c =
    let t = c.args.nodes.now in
    c.in_ok-tree.ensures ∙ root_is_fresh t (none_empty t c.requires.placed) c.requires.lines (root_strand t c.requires.placed) c.requires.root

pub add_node-requires-clause-low : goal.add_node-requires-clause-low
add_node-requires-clause-low c = placed_low c.args.nodes.now c.loop-n.n (none_misplaced c.args.nodes.now c.requires.placed c.loop-n.n c.loop-n-test.true) (omega arith)
