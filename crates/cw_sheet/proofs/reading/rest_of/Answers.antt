use Rattle.std.proofs.Common.{length, ap, arith}
use Rattle.cw_sheet.specs.Taking.{place_of}
use Rattle.cw_sheet.proofs.Placed.{root_strand}
use Rattle.cw_sheet.proofs.Rows.{all_lines, nodes_are, root_is}
use Rattle.cw_sheet.proofs.reading.rest_of.Goals as goal

pub tree_of-requires-clause-short : goal.tree_of-requires-clause-short
tree_of-requires-clause-short c =
    let n = nodes_are (place_of c.limits.new.self) (place_of c.nodes.new.cursor) c.in_ok-nodes.nodes.items c.in_ok-nodes.ensures in
    omega (arith, n.few, c.line-line.ensures.short, ap length c.as_slice.ensures.value)

pub tree_of-requires-clause-lines : goal.tree_of-requires-clause-lines
tree_of-requires-clause-lines c =
    let n = nodes_are (place_of c.limits.new.self) (place_of c.nodes.new.cursor) c.in_ok-nodes.nodes.items c.in_ok-nodes.ensures in
    rw c.as_slice.ensures.value (all_lines 0 c.in_ok-nodes.nodes.items n.rows)

pub tree_of-requires-clause-root : goal.tree_of-requires-clause-root
tree_of-requires-clause-root c =
    let n = nodes_are (place_of c.limits.new.self) (place_of c.nodes.new.cursor) c.in_ok-nodes.nodes.items c.in_ok-nodes.ensures in
    rw c.as_slice.ensures.value (λ h. root_is c.in_ok-nodes.nodes.items n.rows (root_strand c.in_ok-nodes.nodes.items h))
